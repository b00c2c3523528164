-- Arrays and states that are found by name, and where their elements and cells are.
use Rattle.std.proofs.Common.{◌≡◌, ℕ, zero, suc, ◌+◌, ◌≤◌, List, [], ◌∷◌, Some, sym, ◌∙◌, subst, arith}
use Rattle.std.specs.Prelude.{IsTrue, slice_get}
use Rattle.std.specs.List.{position_or_len}
use Rattle.std.specs.Str.{bytes_eq}
use Rattle.std.proofs.lemmas.Bool.{and_parts, eqb-true}
use Rattle.std.proofs.lemmas.List.Folds.{find_at}
use Rattle.chare_base.specs.declared.plan.Array.{Array}
use Rattle.chare_base.specs.declared.plan.Plan.{Plan}
use Rattle.chare_base.specs.declared.plan.State.{State}
use Rattle.chare_base.specs.Elements.{elements}
use Rattle.chare_base.specs.Layout.{numbered_from, placed_from}
use Rattle.chare_base.specs.Limits.{array_fits}
use Rattle.chare_base.specs.Sizes.{cells_in, elements_in, size_of}
use Rattle.chare_base.proofs.Facts.{Fits, each_at, each_fits, elements_few, fits_of, laid_out}
use Rattle.fault_script.specs.Meaning.{array_called, state_called}

-- an array of a plan, and its number
pub record ArrayIn (p : Plan) (a : Array) : Type 0 where
  pub number : ℕ
  pub is : slice_get p.arrays number ≡ Some a

pub array_in : (p : Plan) (name : List ℕ) (a : Array) → array_called name p.arrays ≡ Some a → ArrayIn p a
array_in p name a e =
    record { number = position_or_len (λ (x : Array). bytes_eq name x.name) p.arrays; is = sym (find_at (λ (x : Array). bytes_eq name x.name) p.arrays) ∙ e }

behind : (n size others first own : ℕ) → (n + size ≤ first) × (first + own ≤ n + size + others) → (n ≤ first) × (first + own ≤ n + (size + others))
behind n size others first own h = (omega (arith, h.0), omega (arith, h.1))

-- each array begins where the one before ends, from a number on
pub numbered_at : (n k : ℕ) (arrays : List Array) (a : Array) → IsTrue (numbered_from n arrays) → slice_get arrays k ≡ Some a →
    (n ≤ a.first) × (a.first + size_of a ≤ n + elements_in arrays)
numbered_at n k [] a h e = cc
numbered_at n zero (b ∷ more) a h e =
    let same : b ≡ a = cc in
    let first : b.first ≡ n = eqb-true b.first n (and_parts _ _ h).0 in
    subst (λ (x : Array). (n ≤ x.first) × (x.first + size_of x ≤ n + (size_of b + elements_in more))) same (omega arith, omega arith)
numbered_at n (suc k) (b ∷ more) a h e =
    behind n (size_of b) (elements_in more) a.first (size_of a) (numbered_at (n + size_of b) k more a (and_parts _ _ h).1 e)

placed_at : (n k : ℕ) (states : List State) (s : State) → IsTrue (placed_from n states) → slice_get states k ≡ Some s → s.at + s.cells ≤ n + cells_in states
placed_at n k [] s h e = cc
placed_at n zero (b ∷ more) s h e =
    let same : b ≡ s = cc in
    let first : b.at ≡ n = eqb-true b.at n (and_parts _ _ h).0 in
    subst (λ (x : State). x.at + x.cells ≤ n + (b.cells + cells_in more)) same (omega arith)
placed_at n (suc k) (b ∷ more) s h e = omega (arith, placed_at (n + b.cells) k more s (and_parts _ _ h).1 e)

module _ (p : Plan) (a : Array) (in_plan : ArrayIn p a) where
  pub fits : Fits a
  fits = fits_of a (each_at array_fits p.arrays in_plan.number a (each_fits p) in_plan.is)

  pub elements_within : a.first + size_of a ≤ elements p
  elements_within = omega (arith, (numbered_at 0 in_plan.number p.arrays a (laid_out p).numbered in_plan.is).1)

  pub elements_small : a.first + size_of a ≤ 4096
  elements_small = omega (arith, elements_within, elements_few p)

  pub cells_within : (name : List ℕ) (s : State) → state_called name a.states ≡ Some s → s.at + s.cells ≤ cells_in a.states
  cells_within name s e =
      let placed : IsTrue (placed_from 0 a.states) = each_at (λ (x : Array). placed_from 0 x.states) p.arrays in_plan.number a (laid_out p).placed in_plan.is in
      let at : slice_get a.states (position_or_len (λ (x : State). bytes_eq name x.name) a.states) ≡ Some s = sym (find_at (λ (x : State). bytes_eq name x.name) a.states) ∙ e in
      omega (arith, placed_at 0 (position_or_len (λ (x : State). bytes_eq name x.name) a.states) a.states s placed at)

  pub cells_small : (name : List ℕ) (s : State) → state_called name a.states ≡ Some s → s.at + s.cells ≤ 4096
  cells_small name s e = omega (arith, cells_within name s e, fits.cells)
