-- Plans and refusals of one text.
use Rattle.std.proofs.Common.{◌≡◌, ℕ, List, ap, sym, ◌∙◌, Some, inl, inr}
use Rattle.job_tree.proofs.Texts.{one_tree}
use Rattle.job_tree.proofs.Unique.{one_fault}
use Rattle.job_rules.specs.declared.fault.CheckFault.{CheckFault}
use Rattle.job_rules.specs.Checked.{first_fault, plan_of}
use Rattle.job_rules.specs.Faults.{Found, nothing, place_of}
use Rattle.job_rules.specs.Accepted.{Broken, HasNoPlan, OnePlan, OneRefusal, RefusedHasNone}
use Rattle.job_rules.specs.Codes.{fault_code, parse_code, parse_place}

pub one_plan : OnePlan
one_plan text p q a b = a.plans ∙ ap (plan_of text) (one_tree text a.job b.job a.reads b.reads) ∙ sym b.plans

no_fault : (f : CheckFault) (o : Found) → o ≡ nothing → o ≡ Some f → ⊥
no_fault f o a b = absurd (let e : nothing ≡ Some f = sym a ∙ b in cc)

broken_has_none : (text : List ℕ) (at code : ℕ) → Broken text at code → HasNoPlan text
broken_has_none text at code b p is =
    no_fault b.fault (first_fault text b.job) (ap (first_fault text) (one_tree text b.job is.job b.reads is.reads) ∙ is.sound) b.first

pub refused_has_none : RefusedHasNone
refused_has_none text at code (inl n) p is = n.none is.job is.reads
refused_has_none text at code (inr b) p is = broken_has_none text at code b p is

same_fault : (f g : CheckFault) (o : Found) → o ≡ Some f → o ≡ Some g → f ≡ g
same_fault f g o a b = let e : Some f ≡ Some g = sym a ∙ b in cc

pub one_refusal : OneRefusal
one_refusal text at code other_at other_code (inl n) (inl m) =
    let same = one_fault text n.fault m.fault n.real m.real n.told m.told in
    (n.placed ∙ ap parse_place same ∙ sym m.placed, n.coded ∙ ap parse_code same ∙ sym m.coded)
one_refusal text at code other_at other_code (inl n) (inr b) = absurd (n.none b.job b.reads)
one_refusal text at code other_at other_code (inr b) (inl n) = absurd (n.none b.job b.reads)
one_refusal text at code other_at other_code (inr b) (inr c) =
    let same = same_fault b.fault c.fault (first_fault text b.job) b.first (ap (first_fault text) (one_tree text b.job c.job b.reads c.reads) ∙ c.first) in
    (b.placed ∙ ap place_of same ∙ sym c.placed, b.coded ∙ ap fault_code same ∙ sym c.coded)
