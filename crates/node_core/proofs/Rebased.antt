-- What stays true of elements, contributions and pieces under other flips.
use Rattle.std.proofs.Common.{◌≡◌, ℕ, ℤ, ◌≤◌, Bool, true, false, cond, List, [], ◌∷◌, ◌++◌, refl, ap, sym, ◌∙◌, arith, Option, Some, None}
use Rattle.std.specs.Prelude.{◌==◌, is_none}
use Rattle.std.specs.List.{AllByRecursion, filter}
use Rattle.std.proofs.lemmas.Bool.{eqb-true, leb-true}
use Rattle.chare_base.specs.declared.message.Payload.{Payload}
use Rattle.chare_base.specs.declared.plan.Plan.{Plan}
use Rattle.chare_base.specs.Flip.{Flip}
use Rattle.chare_base.specs.Total.{joined_to}
use Rattle.chare_eval.specs.Fold.{fold}
use Rattle.chare_eval.specs.Inside.{cells_between}
use Rattle.chare_eval.specs.Later.{LaterFlipsDecideInside, SameInside, flips_from}
use Rattle.chare_eval.specs.Laws.{EarlierFlipsDecide, contribution_of, flips_before, some_number}
use Rattle.chare_eval.specs.Stage.{state_at}
use Rattle.letter_post.specs.Truth.{contributions_of, node_members}
use Rattle.object_steps.specs.Laws.{Follows, IsMessage}
use Rattle.object_steps.specs.Laws as object_laws
use Rattle.object_steps.specs.Objects.{Progress}
use Rattle.pup_state.specs.declared.piece.Piece.{Piece}
use Rattle.pup_state.specs.Spelling.{records_of}
use Rattle.ref_messages.specs.declared.key.RefKey.{RefKey}
use Rattle.node_core.specs.Gatherings.{Gathering}
use Rattle.node_core.specs.Keeps.{Gives, IsGathering, IsPieceOf, IsSharing, share_of}
use Rattle.node_core.specs.Nodes.{all_at_of, is_from}
use Rattle.node_core.specs.Rosters.{Roster, sharers_of}
use Rattle.node_core.specs.Turns.{is_at}
use Rattle.chare_base.specs.Placing.{members}
use Rattle.node_core.proofs.Turning.{first, none_is, second}

-- ---- pieces

-- equal flips before an iteration made the same states
pub same_before : EarlierFlipsDecide → (p : Plan) (a b : List Flip) (k : ℕ) → flips_before k b ≡ flips_before k a → fold p a k ≡ fold p b k
same_before earlier p a b k same = earlier p a k ∙ ap (λ l. fold p l k) (sym same) ∙ sym (earlier p b k)

-- a piece is the definition's under flips that made the same states
pub piece_over : (p : Plan) (place : List ℕ) (a b : List Flip) (j : ℕ) (piece : Piece) → fold p a piece.iteration ≡ fold p b piece.iteration → IsPieceOf p place a j piece → IsPieceOf p place b j piece
piece_over p place a b j piece same h = record {
  node = h.node;
  is = record { bytes = h.is.bytes ∙ ap (λ all. records_of p piece.iteration all (members place piece.node)) same; within = h.is.within };
}

-- ---- what is from an iteration on

pub all_filtered : {A : Type 0} (P Q : A → Type 0) (test : A → Bool) (xs : List A) → ((x : A) → test x ≡ true → P x → Q x) → AllByRecursion P xs → AllByRecursion Q (filter test xs)
all_filtered P Q test [] to all = tt
all_filtered P Q test (x ∷ xs) to all = by (test x) refl (all_filtered P Q test xs to all.1)
  where
    by : (b : Bool) → test x ≡ b → AllByRecursion Q (filter test xs) → AllByRecursion Q (cond b (x ∷ filter test xs) (filter test xs))
    by true h rest = (to x h all.0, rest)
    by false h rest = rest

gives_over : (own new : ℕ → Option ℤ) → ((m : ℕ) → own m ≡ new m) → (ms : List ℕ) (given : List (Option ℤ)) → Gives own ms given → Gives new ms given
gives_over own new same [] [] h = tt
gives_over own new same [] (g ∷ given) h = absurd h
gives_over own new same (m ∷ ms) [] h = absurd h
gives_over own new same (m ∷ ms) (None ∷ given) h = (tt, gives_over own new same ms given h.1)
gives_over own new same (m ∷ ms) (Some v ∷ given) h = (sym (same m) ∙ h.0, gives_over own new same ms given h.1)

-- Under other flips from an iteration k on, which is no later, where these are the same and so are the states then.
module _ (inside : LaterFlipsDecideInside) (p : Plan) (a b : List Flip) (k : ℕ) (flips : flips_from k a ≡ flips_from k b) (states : fold p a k ≡ fold p b k) where
  abbrev same_in : (n : ℕ) → k ≤ n → SameInside p a b n
  same_in n h = inside p a b k n h flips states

  -- ---- elements

  messages_over : (e done : ℕ) (held : List (RefKey × Payload)) → k ≤ done → AllByRecursion (λ (m : RefKey × Payload). IsMessage p a e m.0 m.1) held →
      AllByRecursion (λ (m : RefKey × Payload). done ≤ m.0.iteration) held → AllByRecursion (λ (m : RefKey × Payload). IsMessage p b e m.0 m.1) held
  messages_over e done [] h all late = tt
  messages_over e done (m ∷ more) h all late =
      (sym ((same_in m.0.iteration (let l = late.0 in omega (arith, h, l))).messages m.0.port e) ∙ all.0, messages_over e done more h all.1 late.1)

  follows_over : (o : Progress) → is_at k o ≡ true → Follows p a o → Follows p b o
  follows_over o at h =
      let top : o.step ≡ None = none_is o.step (first (is_none o.step) (o.done == k) at) in
      let done : o.done ≡ k = eqb-true o.done k (second (is_none o.step) (o.done == k) at) in
      record {
        fits = h.fits;
        cells =
            h.cells ∙ ap (object_laws.cells_at p a o) top ∙ ap (λ n. cells_between p a n o.element.0) done ∙ ap (λ all. state_at all o.element.0) states
            ∙ ap (λ n. cells_between p b n o.element.0) (sym done) ∙ ap (object_laws.cells_at p b o) (sym top);
        mail = messages_over o.element.0 o.done o.mail.held (omega (arith, done)) h.mail h.present;
        present = h.present;
      }

  pub all_follow_over : (all : List Progress) → all_at_of k all ≡ true → AllByRecursion (Follows p a) all → AllByRecursion (Follows p b) all
  all_follow_over [] at h = tt
  all_follow_over (o ∷ more) at h =
      (follows_over o (first (is_at k o) (all_at_of k more) at) h.0, all_follow_over more (second (is_at k o) (all_at_of k more) at) h.1)

  -- ---- contributions

  contributions_over : (n r : ℕ) (es : List ℕ) → k ≤ n → contributions_of p a n r es ≡ contributions_of p b n r es
  contributions_over n r [] h = refl
  contributions_over n r (e ∷ more) h =
      ap (λ v. some_number v ++ contributions_of p a n r more) ((same_in n h).contributions r e)
      ∙ ap (λ vs. some_number (contribution_of p b n r e) ++ vs) (contributions_over n r more h)

  pub gatherings_over : (place : List ℕ) (j : ℕ) (all : List Gathering) → AllByRecursion (IsGathering p place a j) all → AllByRecursion (IsGathering p place b j) (filter (is_from k) all)
  gatherings_over place j all =
      all_filtered (IsGathering p place a j) (IsGathering p place b j) (is_from k) all
      (λ g late h.
      let now : k ≤ g.iteration = leb-true k g.iteration late in
      record {
        reduction = h.reduction;
        there = h.there;
        gathers = record {
          joined = h.gathers.joined;
          gives =
              gives_over (contribution_of p a g.iteration g.reduction.0) (contribution_of p b g.iteration g.reduction.0) ((same_in g.iteration now).contributions g.reduction.0) (node_members p place h.reduction j)
              g.gathered.given h.gathers.gives;
          missing = h.gathers.missing;
        };
      })

  pub totals_over : (place : List ℕ) (roster : Roster) (all : List Gathering) → AllByRecursion (IsSharing p place a roster) all → AllByRecursion (IsSharing p place b roster) (filter (is_from k) all)
  totals_over place roster all =
      all_filtered (IsSharing p place a roster) (IsSharing p place b roster) (is_from k) all
      (λ g late h.
      let now : k ≤ g.iteration = leb-true k g.iteration late in
      record {
        reduction = h.reduction;
        there = h.there;
        gathers = record {
          joined = h.gathers.joined;
          gives =
              gives_over (share_of p place a h.reduction g.reduction.0 g.iteration) (share_of p place b h.reduction g.reduction.0 g.iteration)
              (λ m. ap (joined_to h.reduction.how None) (contributions_over g.iteration g.reduction.0 (node_members p place h.reduction m) now)) (sharers_of roster h.reduction.owner) g.gathered.given h.gathers.gives;
          missing = h.gathers.missing;
        };
      })
