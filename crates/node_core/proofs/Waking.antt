-- A message that an element awaited lets a part of its step run; any other lets none run that couldn't.
use Rattle.std.proofs.Common.{◌≡◌, ℕ, suc, Bool, true, false, cond, List, [], ◌∷◌, Option, Some, None, refl, ap, sym, ◌∙◌, arith}
use Rattle.std.specs.Prelude.{◌==◌, ◌&&◌, ◌||◌, not, is_none, is_some, nat_le}
use Rattle.std.specs.Option.{option_or}
use Rattle.std.proofs.lemmas.Bool.{eqb-true, le-leb}
use Rattle.std.proofs.lemmas.Bool.Decides.{nat_tests}
use Rattle.chare_base.specs.declared.message.EntryId.{EntryId}
use Rattle.chare_base.specs.declared.message.Need.{Need}
use Rattle.chare_base.specs.declared.message.Need.TheVariants as needs
use Rattle.chare_base.specs.declared.message.Payload.{Payload}
use Rattle.chare_base.specs.declared.message.Port.{Port}
use Rattle.chare_base.specs.declared.message.Port.TheVariants as ports
use Rattle.chare_base.specs.declared.message.Source.{Source}
use Rattle.chare_base.specs.declared.message.Source.TheVariants as sources
use Rattle.chare_base.specs.declared.plan.Part.{Part}
use Rattle.chare_base.specs.declared.plan.Plan.{Plan}
use Rattle.chare_base.specs.Elements.{parts_at}
use Rattle.chare_base.specs.Entries.{source_of}
use Rattle.chare_base.specs.Ports.{port_needed}
use Rattle.chare_eval.specs.Inside.{is_done}
use Rattle.chare_eval.specs.Stage.{Inbox, found}
use Rattle.ref_messages.specs.declared.key.RefKey.{RefKey}
use Rattle.ref_messages.specs.Queue.{Queue, message, put}
use Rattle.object_steps.specs.Objects.{Fits, Progress, arrived_at, awaited_from, awaits, awaits_at, can_run, key_of, mailed, needs_entry, ready, ready_at, ready_from, spot_of, waiting}
use Rattle.object_steps.specs.declared.ready.Ready.TheVariants as ready_as
use Rattle.node_core.specs.Turns.{is_step, takes}
use Rattle.node_core.proofs.Messages.{put_other, put_same}

or_false : (b : Bool) → (b || false) ≡ b
or_false true = refl
or_false false = refl

or_true : (b : Bool) → (b || true) ≡ true
or_true true = refl
or_true false = refl

waits : (missing : Option Port) → is_step (waiting missing) ≡ false
waits None = refl
waits (Some port) = refl

-- ---- the parts of a step, by what of their needs is there

module _ (box new : Inbox) (s : ℕ) (done : List Bool) where
  -- nothing more that matters
  same_parts : ((need : Need) → can_run new need ≡ can_run box need) → (n : ℕ) (m o : Option Port) (parts : List Part) → is_step (ready_from new s done n m parts) ≡ is_step (ready_from box s done n o parts)
  same_parts same n m o [] = waits m ∙ sym (waits o)
  same_parts same n m o (part ∷ more) = by (is_done done n) (can_run box part.need) (can_run new part.need) (same part.need) (λ x y. same_parts same (suc n) x y more)
    where
      by : (d c e : Bool) → e ≡ c → ((x y : Option Port) → is_step (ready_from new s done (suc n) x more) ≡ is_step (ready_from box s done (suc n) y more)) →
          is_step (cond d (ready_from new s done (suc n) m more) (cond e (ready_as.Step (spot_of s n)) (ready_from new s done (suc n) (option_or m (port_needed part.need)) more)))
          ≡ is_step (cond d (ready_from box s done (suc n) o more) (cond c (ready_as.Step (spot_of s n)) (ready_from box s done (suc n) (option_or o (port_needed part.need)) more)))
      by true c e is rest = rest m o
      by false true true is rest = refl
      by false true false is rest = absurd (let q : false ≡ true = is in cc)
      by false false true is rest = absurd (let q : true ≡ false = is in cc)
      by false false false is rest = rest (option_or m (port_needed part.need)) (option_or o (port_needed part.need))

  -- what an entry's message brings
  more_parts : (entry : ℕ) → ((need : Need) → can_run new need ≡ (can_run box need || needs_entry entry need)) → (n : ℕ) (m o : Option Port) (parts : List Part) →
      is_step (ready_from new s done n m parts) ≡ (is_step (ready_from box s done n o parts) || awaited_from entry done n parts)
  more_parts entry brings n m o [] = waits m ∙ sym (ap (λ b. b || false) (waits o))
  more_parts entry brings n m o (part ∷ more) = by (is_done done n) (can_run box part.need) (needs_entry entry part.need) (can_run new part.need) (brings part.need) (λ x y. more_parts entry brings (suc n) x y more)
    where
      by : (d c w e : Bool) → e ≡ (c || w) →
          ((x y : Option Port) → is_step (ready_from new s done (suc n) x more) ≡ (is_step (ready_from box s done (suc n) y more) || awaited_from entry done (suc n) more)) →
          is_step (cond d (ready_from new s done (suc n) m more) (cond e (ready_as.Step (spot_of s n)) (ready_from new s done (suc n) (option_or m (port_needed part.need)) more)))
          ≡ (is_step (cond d (ready_from box s done (suc n) o more) (cond c (ready_as.Step (spot_of s n)) (ready_from box s done (suc n) (option_or o (port_needed part.need)) more))) || (not d && w || awaited_from entry done (suc n) more))
      by true c w e is rest = rest m o
      by false true w true is rest = refl
      by false true w false is rest = absurd (let q : false ≡ true = is in cc)
      by false false true true is rest = sym (or_true (is_step (ready_from box s done (suc n) (option_or o (port_needed part.need)) more)))
      by false false true false is rest = absurd (let q : false ≡ true = is in cc)
      by false false false true is rest = absurd (let q : true ≡ false = is in cc)
      by false false false false is rest = rest (option_or m (port_needed part.need)) (option_or o (port_needed part.need))

-- ---- what is there after a message more

module _ (p : Plan) (e k : ℕ) (entry : EntryId) (mail new : Queue) where
  abbrev at : RefKey
  at = key_of k (ports.Entry entry)

  -- its own key has a message, and no other changed
  abbrev Others : Type 0
  Others = (key : RefKey) → (key ≡ at → ⊥) → message new key ≡ message mail key

  other_entry : Others → (x : EntryId) → (x.0 == entry.0) ≡ false → message new (key_of k (ports.Entry x)) ≡ message mail (key_of k (ports.Entry x))
  other_entry others x other = others (key_of k (ports.Entry x)) (λ same. let one : x.0 ≡ entry.0 = number_of same in grind (arith, nat_tests))
    where
      number_at : Port → ℕ
      number_at (ports.Entry y) = y.0
      number_at (ports.Total y) = 0

      number_of : key_of k (ports.Entry x) ≡ at → x.0 ≡ entry.0
      number_of same = ap (λ (key : RefKey). number_at key.port) same

  own_entry : (payload : Payload) → message new at ≡ Some payload → (x : EntryId) → (x.0 == entry.0) ≡ true → message new (key_of k (ports.Entry x)) ≡ Some payload
  own_entry payload here x own = let one : x.0 ≡ entry.0 = eqb-true x.0 entry.0 own in ap (λ n. message new (key_of k (ports.Entry (record { 0 = n })))) one ∙ here

  some_found : (source : Source) (payload : Payload) → is_some (found source (Some payload)) ≡ true
  some_found (sources.Element sender) payload = refl
  some_found (sources.Edge other) payload = refl

  brings : (payload : Payload) → message new at ≡ Some payload → Others → (need : Need) → can_run (arrived_at p e k new) need ≡ (can_run (arrived_at p e k mail) need || needs_entry entry.0 need)
  brings payload here others needs.Nothing = refl
  brings payload here others (needs.Port (ports.Entry x)) = by (x.0 == entry.0) refl
    where
      by : (b : Bool) → (x.0 == entry.0) ≡ b →
          is_some (found (source_of p x.0 e) (message new (key_of k (ports.Entry x)))) ≡ (is_some (found (source_of p x.0 e) (message mail (key_of k (ports.Entry x)))) || b)
      by true own =
          ap (λ m. is_some (found (source_of p x.0 e) m)) (own_entry payload here x own) ∙ some_found (source_of p x.0 e) payload
          ∙ sym (or_true (is_some (found (source_of p x.0 e) (message mail (key_of k (ports.Entry x))))))
      by false other =
          ap (λ m. is_some (found (source_of p x.0 e) m)) (other_entry others x other)
          ∙ sym (or_false (is_some (found (source_of p x.0 e) (message mail (key_of k (ports.Entry x))))))
  brings payload here others (needs.Port (ports.Total r)) =
      ap is_some (others (key_of k (ports.Total r)) (λ same. not_entry same)) ∙ sym (or_false (is_some (message mail (key_of k (ports.Total r)))))
    where
      is_entry : Port → Bool
      is_entry (ports.Entry y) = true
      is_entry (ports.Total y) = false

      not_entry : key_of k (ports.Total r) ≡ at → ⊥
      not_entry same = let q : false ≡ true = ap (λ (key : RefKey). is_entry key.port) same in cc

-- ---- an element that a message comes to

module _ (p : Plan) (o : Progress) (k : ℕ) (entry : EntryId) (payload : Payload) where
  abbrev key : RefKey
  key = key_of k (ports.Entry entry)

  abbrev box : Queue → Inbox
  box mail = arrived_at p o.element.0 o.done mail

  abbrev step_after : ℕ → Queue → Bool
  step_after s mail = is_step (ready_from (box mail) s o.parts 0 None (parts_at p o.element.0 s))

  -- one of another iteration than the present one
  elsewhere : (s : ℕ) → (k ≡ o.done → ⊥) → step_after s (put o.mail key payload) ≡ step_after s o.mail
  elsewhere s other = same_parts (box o.mail) (box (put o.mail key payload)) s o.parts same 0 None None (parts_at p o.element.0 s)
    where
      unchanged : (port : Port) → message (put o.mail key payload) (key_of o.done port) ≡ message o.mail (key_of o.done port)
      unchanged port = put_other o.mail key (key_of o.done port) payload (λ q. other (sym (ap (λ (a : RefKey). a.iteration) q)))

      same : (need : Need) → can_run (box (put o.mail key payload)) need ≡ can_run (box o.mail) need
      same needs.Nothing = refl
      same (needs.Port (ports.Entry x)) = ap (λ m. is_some (found (source_of p x.0 o.element.0) m)) (unchanged (ports.Entry x))
      same (needs.Port (ports.Total r)) = ap is_some (unchanged (ports.Total r))

  abbrev woken : ℕ → Bool
  woken s = step_after s o.mail || awaited_from entry.0 o.parts 0 (parts_at p o.element.0 s)

  -- one of the present iteration
  here : (s : ℕ) (new : Queue) (found : Payload) → message new (key_of o.done (ports.Entry entry)) ≡ Some found →
      ((other : RefKey) → (other ≡ key_of o.done (ports.Entry entry) → ⊥) → message new other ≡ message o.mail other) → step_after s new ≡ woken s
  here s new found is others =
      more_parts (box o.mail) (box new) s o.parts entry.0 (brings p o.element.0 o.done entry o.mail new found is others) 0 None None (parts_at p o.element.0 s)

  abbrev mail_of : Bool → Queue
  mail_of b = cond b (put o.mail key payload) o.mail

  -- whether it is kept or not
  abbrev kept : Bool
  kept = nat_le o.mail.since k && is_none (message o.mail key)

  in_step : Fits p o → (s : ℕ) → step_after s (mail_of kept) ≡ (step_after s o.mail || (k == o.done && awaited_from entry.0 o.parts 0 (parts_at p o.element.0 s)))
  in_step fits s = by (k == o.done) refl
    where
      old : (b : Bool) → (k ≡ o.done → ⊥) → step_after s (mail_of b) ≡ step_after s o.mail
      old true other = elsewhere s other
      old false other = refl

      now : k ≡ o.done → (m : Option Payload) → message o.mail key ≡ m → step_after s (mail_of (nat_le o.mail.since k && is_none m)) ≡ woken s
      now same None none =
          ap (λ b. step_after s (mail_of (b && true))) (le-leb o.mail.since k (omega (arith, fits.since, same)))
          ∙ here s (put o.mail key payload) payload (ap (λ n. message (put o.mail key payload) (key_of n (ports.Entry entry))) (sym same) ∙ put_same o.mail key payload)
          (λ other apart. put_other o.mail key other payload (λ q. apart (q ∙ ap (λ n. key_of n (ports.Entry entry)) same)))
      now same (Some found) some =
          ap (λ b. step_after s (mail_of b)) (never (nat_le o.mail.since k))
          ∙ here s o.mail found (ap (λ n. message o.mail (key_of n (ports.Entry entry))) (sym same) ∙ some) (λ other apart. refl)
        where
          never : (b : Bool) → (b && false) ≡ false
          never true = refl
          never false = refl

      by : (b : Bool) → (k == o.done) ≡ b → step_after s (mail_of kept) ≡ (step_after s o.mail || (b && awaited_from entry.0 o.parts 0 (parts_at p o.element.0 s)))
      by true same = now (eqb-true k o.done same) (message o.mail key) refl
      by false other = old kept (λ q. grind (arith, nat_tests)) ∙ sym (or_false (step_after s o.mail))

  abbrev after : Progress
  after = mailed o key payload

  -- It can run afterwards where it could, or awaited the message.
  pub wakes : Fits p o → (s : ℕ) → o.step ≡ Some s → is_step (ready p (takes o key payload)) ≡ (is_step (ready p o) || awaits p o k entry.0)
  unfolding ready
  wakes fits s is = by kept refl ∙ in_step fits s ∙ sym together
    where
      by : (b : Bool) → kept ≡ b → is_step (ready_at p (cond kept after o) (cond kept after o).step) ≡ step_after s (mail_of kept)
      by true q =
          ap (λ b. is_step (ready_at p (cond b after o) (cond b after o).step)) q ∙ ap (λ t. is_step (ready_at p after t)) is ∙ sym (ap (λ b. step_after s (mail_of b)) q)
      by false q =
          ap (λ b. is_step (ready_at p (cond b after o) (cond b after o).step)) q ∙ ap (λ t. is_step (ready_at p o t)) is ∙ sym (ap (λ b. step_after s (mail_of b)) q)

      together : (is_step (ready_at p o o.step) || awaits p o k entry.0) ≡ (step_after s o.mail || (k == o.done && awaited_from entry.0 o.parts 0 (parts_at p o.element.0 s)))
      together = ap (λ t. is_step (ready_at p o t) || awaits_at p o k entry.0 t) is
