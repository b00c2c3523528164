-- The rules of declarations, steps and answers, and of a job.
use Rattle.std.proofs.Common.{◌≡◌, ℕ, suc, ◌<◌, Bool, true, false, inl, inr, List, [], ◌∷◌, ◌++◌, map, length, refl, ap, sym, ◌∙◌, arith, Option, subst}
use Rattle.std.specs.Prelude.{◌||◌}
use Rattle.std.specs.List.{AllByRecursion}
use Rattle.job_tree.specs.declared.token.Kind.{Kind}
use Rattle.job_tree.specs.declared.token.Kind.TheVariants as kinds
use Rattle.job_tree.specs.declared.token.Mark.TheVariants as marks
use Rattle.job_tree.specs.declared.token.Num.{Num}
use Rattle.job_tree.specs.declared.token.Span.{Span}
use Rattle.job_tree.specs.declared.tree.Coordinates.{Coordinates}
use Rattle.job_tree.specs.declared.tree.PartDecl.{PartDecl}
use Rattle.job_tree.specs.declared.tree.StepDecl.{StepDecl}
use Rattle.job_tree.specs.declared.tree.Block.{Block}
use Rattle.job_tree.specs.declared.tree.AnswerDecl.{AnswerDecl}
use Rattle.job_tree.specs.declared.tree.AnswerDecl.TheVariants as the_answers
use Rattle.job_tree.specs.declared.tree.EdgeDecl.{EdgeDecl}
use Rattle.job_tree.specs.declared.tree.EdgeDecl.TheVariants as edges
use Rattle.job_tree.specs.declared.tree.How.{How}
use Rattle.job_tree.specs.declared.tree.How.TheVariants as hows
use Rattle.job_tree.specs.declared.tree.MemberDecl.{MemberDecl}
use Rattle.job_tree.specs.declared.tree.MemberDecl.TheVariants as the_members
use Rattle.job_tree.specs.declared.tree.StepBody.{StepBody}
use Rattle.job_tree.specs.declared.tree.StepBody.TheVariants as bodies
use Rattle.job_tree.specs.Readers.{is_mark}
use Rattle.job_tree.specs.Word.{Word, Name, Number}
use Rattle.job_tree.specs.Spelling.{mark as bare, placed, opener, joined, maybe as maybe_spelling, how_mark, signed_spelling, coordinates_spelling, offset_spelling, cell_spelling, count_spelling, block_spelling, names_spelling, state_spelling, edge_spelling, entry_spelling, reduce_spelling, member_spelling, part_spelling, body_spelling, step_spelling, array_spelling, answer_spelling, job_spelling}
use Rattle.job_tree.specs.Reading.{is_member, state_at, states_at, edge_at, entry_at, reduce_at, member_at, members_at, part_at, parts_at, overlap_at, body_at, step_at, steps_at, array_at, arrays_at, over_at, cell_answer_at, answer_at, answers_at, job_at}
use Rattle.job_tree.specs.Accepted.{BodyFilled, StepFilled, ArrayFilled, JobFilled}
use Rattle.std.proofs.lemmas.List.{append-nil}
use Rattle.job_tree.proofs.Lists.{Headed}
use Rattle.job_tree.proofs.Joined.{Free, Then, Last, Ends, Either}
use Rattle.job_tree.proofs.Many.{Shrinks}
use Rattle.job_tree.proofs.Loops.{rule_shrinks}
use Rattle.job_tree.proofs.Marks.{is_mark_same}
use Rattle.job_tree.proofs.Rules.{Rule, Kept, never, in_words, mark, skip, enclosed, then, last, end, choice, front, top, never_free}
use Rattle.job_tree.proofs.Singles.{Spelt, SpeltAll, Fine, FineSome, FineAll, name, num, how, all, fine_all, fine_some, some_front}
use Rattle.job_tree.proofs.OfExpressions.{on_expr, expr, by_case, headed_free}
use Rattle.job_tree.proofs.OfStatements.{signed, coordinates, offset, cells, counted, names, block, block_heads}

-- any value
abbrev Any : {A : Type 0} → A → Type 0
Any x = Unit {0}

any_all : {A : Type 0} (xs : List A) → AllByRecursion Any xs
any_all [] = tt
any_all (x ∷ xs) = (tt, any_all xs)

-- ---- states, entries and reductions

state : (k : ℕ) → Rule k (Fine Any state_spelling) on_expr state_at
unfolding state_at
state k = in_words
    (mark marks.State (λ at. name (λ s. skip marks.Colon (λ c. skip marks.Int (λ i. then cells (λ n. skip marks.Assign (λ a. last (expr k) (λ e. record { at = at; name = s; cells = n; start = e }))) (λ o a x vs q. front (λ x. is_mark marks.OpenBracket x || never x) on_expr q.1 refl))))))
    (λ o x ws t. (tt, cc))
    (λ o x ws e. (x.at, _, e.1, (x.name, _, refl, (_, refl, (_, refl, (x.cells, maybe_spelling cell_spelling x.cells o, _, refl, refl, (_, refl, (x.start, refl, refl))))))))

states : (k : ℕ) → Rule k (FineSome Any state_spelling) (λ x. is_mark marks.State x || on_expr x) states_at
unfolding states_at
states k = fine_some Any state_spelling (is_mark marks.State) (state k) (λ o x. refl) (λ x e. ap on_expr (is_mark_same marks.State x e))

edge : {k : ℕ} → Rule k (Spelt edge_spelling) never (λ n. edge_at)
unfolding edge_at
edge = in_words
    (choice (is_mark marks.Wrap) (mark marks.Wrap (λ at. end (edges.Wrap at))) (mark marks.Else (λ at. last signed (λ v. edges.Else at v))) (λ o x ws is. top (is_mark marks.Wrap) is.2 refl) (λ o x ws is. front (is_mark marks.Wrap) never is.2 refl))
    (λ o x ws t. by_case (λ g. cc) (λ g. cc) t)
    from
  where
    from : (o : ℕ) (x : EdgeDecl) (ws : List Word) → Spelt edge_spelling o x ws → Either (Kept (λ at. placed marks.Wrap at) (λ at. Ends (edges.Wrap at))) (Kept (λ at. placed marks.Else at) (λ at. Last (Spelt signed_spelling o) (λ v. edges.Else at v))) x ws
    from o (edges.Wrap at) ws e = inl (at, [], e, (refl, refl))
    from o (edges.Else at v) ws e = inr (at, signed_spelling v o, e, (v, refl, refl))

entry : {k : ℕ} → Rule k (Spelt entry_spelling) never entry_at
unfolding entry_at
entry = in_words
    (mark marks.Entry (λ at. name (λ s. then counted (λ n. skip marks.From (λ f. name (λ a. then offset (λ d. last edge (λ e. record { at = at; name = s; values = n; source = a; offset = d; edge = e })) (λ o a x vs q. never_free never vs)))) (λ o a x vs q. front (λ x. is_mark marks.OpenParen x || never x) never q.1 refl))))
    (λ o x ws t. cc)
    (λ o x ws e.
    (x.at, _, e, (x.name, _, refl, (x.values, maybe_spelling count_spelling x.values o, _, refl, refl, (_, refl, (x.source, _, refl, (x.offset, offset_spelling x.offset o, edge_spelling x.edge o, refl, refl, (x.edge, refl, refl))))))))

reduce : {k : ℕ} → Rule k (Spelt reduce_spelling) never (λ n. reduce_at)
unfolding reduce_at
reduce = in_words (mark marks.Reduce (λ at. name (λ s. how (λ h. end (record { at = at; name = s; how = h }))))) (λ o x ws t. cc) (λ o x ws e. (x.at, _, e, (x.name, _, refl, (x.how, [], refl, (refl, refl)))))

member : {k : ℕ} → Rule k (Spelt member_spelling) never member_at
unfolding member_at
member = in_words
    (choice (is_mark marks.Entry) (last entry (λ e. the_members.Entry e)) (last reduce (λ r. the_members.Reduce r)) (λ o x ws is. top (is_mark marks.Entry) is.1 refl) (λ o x ws is. front (is_mark marks.Entry) never is.1 refl))
    (λ o x ws t. by_case (λ g. g.1 ∙ ap (λ z. member_spelling z o) g.2) (λ g. g.1 ∙ ap (λ z. member_spelling z o) g.2) t)
    from
  where
    from : (o : ℕ) (x : MemberDecl) (ws : List Word) → Spelt member_spelling o x ws → Either (Last (Spelt entry_spelling o) (λ e. the_members.Entry e)) (Last (Spelt reduce_spelling o) (λ r. the_members.Reduce r)) x ws
    from o (the_members.Entry m) ws e = inl (m, e, refl)
    from o (the_members.Reduce m) ws e = inr (m, e, refl)

member_heads : (o : ℕ) (x : MemberDecl) → Headed is_member (member_spelling x o)
member_heads o (the_members.Entry m) = refl
member_heads o (the_members.Reduce m) = refl

member_off : (off : Kind → Bool) → off (kinds.Mark marks.Entry) ≡ false → off (kinds.Mark marks.Reduce) ≡ false → (k : Kind) → is_member k ≡ true → off k ≡ false
member_off off a b k e = by (is_mark marks.Entry k) (is_mark marks.Reduce k) refl refl e
  where
    by : (c d : Bool) → is_mark marks.Entry k ≡ c → is_mark marks.Reduce k ≡ d → (c || d) ≡ true → off k ≡ false
    by true d h i e = ap off (is_mark_same marks.Entry k h) ∙ a
    by false true h i e = ap off (is_mark_same marks.Reduce k i) ∙ b
    by false false h i e = absurd cc

members : {k : ℕ} → Rule k (SpeltAll member_spelling) (λ x. is_member x || never x) members_at
unfolding members_at
members = all member_spelling is_member member member_heads (λ x e. refl)

-- ---- steps

part : {k : ℕ} → Rule k (Fine Any part_spelling) never part_at
unfolding part_at
part {k = k} = in_words
    (mark marks.When (λ at. name (λ s. then names (λ n. last (block k) (λ b. record { at = at; port = s; names = n; block = b })) (λ o a x vs q. never_free never vs))))
    (λ o x ws t. (tt, cc))
    (λ o x ws e. (x.at, _, e.1, (x.port, _, refl, (x.names, names_spelling x.names o, block_spelling x.block o, refl, refl, (x.block, refl, refl)))))

abbrev two : PartDecl → PartDecl → List PartDecl → List PartDecl
two a b cs = a ∷ b ∷ cs

abbrev Two : ℕ → List PartDecl → List Word → Type 0
Two o xs ws = (1 < length xs) × (ws ≡ joined o (map part_spelling xs))

parts : {k : ℕ} → Rule k Two (λ x. is_mark marks.When x || never x) parts_at
unfolding parts_at
parts = in_words
    (then part (λ a. then part (λ b. last (fine_all Any part_spelling (is_mark marks.When) part (λ o x. refl) (λ x e. refl)) (λ cs. a ∷ b ∷ cs)) (λ o a x vs q. never_free (λ x. is_mark marks.When x || never x) vs)) (λ o a x vs q. never_free (λ x. is_mark marks.When x || never x) vs))
    (λ o x ws t. subst (λ z. Two o z ws) t.5.5.2 (of o t.0 t.5.0 t.5.5.0 t.1 t.2 t.5.1 t.5.2 ws t.3 t.4.1 t.5.3 t.5.4.1 t.5.5.1.1))
    (λ o x ws e. from o x ws e)
  where
    of : (o : ℕ) (a b : PartDecl) (cs : List PartDecl) (us vs us' vs' ws : List Word) → ws ≡ us ++ vs → us ≡ part_spelling a o → vs ≡ us' ++ vs' → us' ≡ part_spelling b o → vs' ≡ joined o (map part_spelling cs) → Two o (two a b cs) ws
    of o a b cs us vs us' vs' ws e u v u' v' = (omega arith, e ∙ ap (λ z. z ++ vs) u ∙ ap (λ z. part_spelling a o ++ z) (v ∙ ap (λ z. z ++ vs') u' ∙ ap (λ z. part_spelling b o ++ z) v'))

    from : (o : ℕ) (x : List PartDecl) (ws : List Word) → Two o x ws → Then (Fine Any part_spelling o) (λ a. Then (Fine Any part_spelling o) (λ b. Last (FineAll Any part_spelling o) (λ cs. two a b cs))) x ws
    from o [] ws e = absurd (omega (arith, e.0))
    from o (a ∷ []) ws e = absurd (omega (arith, e.0))
    from o (a ∷ b ∷ cs) ws e = (a, part_spelling a o, _, e.1, (tt, refl), (b, part_spelling b o, joined o (map part_spelling cs), refl, (tt, refl), (cs, (any_all cs, refl), refl)))

-- what a block begins with
block_front : (off on : Kind → Bool) (o : ℕ) (b : Block) (ws : List Word) → off (kinds.Mark marks.OpenBrace) ≡ false → ws ≡ block_spelling b o → Free off on ws
block_front off on o b ws h e = subst (Free off on) (sym e) (headed_free (is_mark marks.OpenBrace) off on (λ k i. ap off (is_mark_same marks.OpenBrace k i) ∙ h) (block_spelling b o) (block_heads o b))

body : {k : ℕ} → Rule k (Fine BodyFilled body_spelling) never body_at
unfolding body_at overlap_at
body {k = k} = in_words
    (choice (is_mark marks.When) (last part (λ p. bodies.Part p))
    (choice (is_mark marks.Overlap)
    (mark marks.Overlap (λ at. enclosed marks.OpenBrace _ (λ z. then parts (λ ps. skip marks.CloseBrace (λ c. end (bodies.Overlap at ps))) (λ o a x vs q. front (λ x. is_mark marks.When x || never x) never q.1 refl))))
    (last (block k) (λ b. bodies.Block b))
    (λ o x ws is. top (is_mark marks.Overlap) is.2 refl) (λ o x ws is. block_front (is_mark marks.Overlap) never o is.0 ws refl is.1))
    (λ o x ws is. top (is_mark marks.When) is.1.1 refl) (λ o x ws is. by_case (λ a. front (is_mark marks.When) never a.2 refl) (λ b. block_front (is_mark marks.When) never o b.0 ws refl b.1) is))
    (λ o x ws t. by_case (λ g. subst (λ z. Fine BodyFilled body_spelling o z ws) g.2 (tt, g.1.1))
    (λ u. by_case (λ g. subst (λ z. Fine BodyFilled body_spelling o z ws) g.3.2.5.2.0
    (g.3.2.4.0, g.2 ∙ ap (λ z. placed marks.Overlap g.0 ∷ z) (g.3.1 ∙ ap (λ z. opener marks.OpenBrace o ∷ z) (g.3.2.3 ∙ ap (λ z. z ++ g.3.2.2) g.3.2.4.1 ∙ ap (λ z. joined (suc o) (map part_spelling g.3.2.0) ++ z) (g.3.2.5.1 ∙ ap (λ z. bare marks.CloseBrace ∷ z) g.3.2.5.2.1)))))
    (λ g. subst (λ z. Fine BodyFilled body_spelling o z ws) g.2 (tt, g.1)) u) t)
    (λ o x ws e. body_cases x ws o e (λ p h w. inl (p, (tt, w), h)) (λ at ps h n w. inr (inl (at, _, w, (_, refl, (ps, joined (suc o) (map part_spelling ps), bare marks.CloseBrace ∷ [], refl, (n, refl), ([], refl, (h, refl))))))) (λ b h w. inr (inr (b, w, h))))
  where
    body_cases : {C : Type 0} (x : StepBody) (ws : List Word) (o : ℕ) → Fine BodyFilled body_spelling o x ws → ((p : PartDecl) → bodies.Part p ≡ x → ws ≡ part_spelling p o → C) →
        ((at : ℕ) (ps : List PartDecl) → bodies.Overlap at ps ≡ x → 1 < length ps → ws ≡ placed marks.Overlap at ∷ opener marks.OpenBrace o ∷ (joined (suc o) (map part_spelling ps) ++ bare marks.CloseBrace ∷ []) → C) → ((b : Block) → bodies.Block b ≡ x → ws ≡ block_spelling b o → C) → C
    body_cases (bodies.Block b) ws o e f g h = h b refl e.1
    body_cases (bodies.Part p) ws o e f g h = f p refl e.1
    body_cases (bodies.Overlap at ps) ws o e f g h = g at ps refl e.0 e.1

step : {k : ℕ} → Rule k (Fine StepFilled step_spelling) never step_at
unfolding step_at
step = in_words (mark marks.Step (λ at. last body (λ b. record { at = at; body = b })))
    (λ o x ws t. subst (λ z. Fine StepFilled step_spelling o z ws) t.3.2 (t.3.1.0, t.2 ∙ ap (λ z. placed marks.Step t.0 ∷ z) t.3.1.1))
    (λ o x ws e. (x.at, body_spelling x.body o, e.1, (x.body, (e.0, refl), refl)))

steps : {k : ℕ} → Rule k (FineSome StepFilled step_spelling) (λ x. is_mark marks.Step x || never x) steps_at
unfolding steps_at
steps = fine_some StepFilled step_spelling (is_mark marks.Step) step (λ o x. refl) (λ x e. refl)

-- ---- arrays

-- states are followed by entries, reductions or steps
states_free : (on : Kind → Bool) (o : ℕ) (ms : List MemberDecl) (ss : List StepDecl) (us vs us' vs' ws : List Word) → ws ≡ us ++ vs → us ≡ joined o (map member_spelling ms) → vs ≡ us' ++ vs' → FineSome StepFilled step_spelling o ss us' → Free (λ x. is_mark marks.State x || on_expr x) on ws
states_free on o [] ss us vs us' vs' ws e u v s =
    some_front step_spelling (is_mark marks.Step) (λ x. is_mark marks.State x || on_expr x) on o ss ws vs' (λ o x. refl) (λ x h. ap (λ z. is_mark marks.State z || on_expr z) (is_mark_same marks.Step x h)) s.0
    (e ∙ ap (λ z. z ++ vs) u ∙ v ∙ ap (λ z. z ++ vs') s.2)
states_free on o (m ∷ ms) ss us vs us' vs' ws e u v s =
    some_front member_spelling is_member (λ x. is_mark marks.State x || on_expr x) on o (m ∷ ms) ws vs member_heads (member_off (λ x. is_mark marks.State x || on_expr x) refl refl) (omega arith) (e ∙ ap (λ z. z ++ vs) u)

members_free : (on : Kind → Bool) (o : ℕ) (ss : List StepDecl) (us vs ws : List Word) → ws ≡ us ++ vs → FineSome StepFilled step_spelling o ss us → Free (λ x. is_member x || never x) on ws
members_free on o ss us vs ws e s =
    some_front step_spelling (is_mark marks.Step) (λ x. is_member x || never x) on o ss ws vs (λ o x. refl) (λ x h. ap (λ z. is_member z || never z) (is_mark_same marks.Step x h)) s.0 (e ∙ ap (λ z. z ++ vs) s.2)

array : (k : ℕ) → Rule k (Fine ArrayFilled array_spelling) never array_at
unfolding array_at
array k = in_words
    (mark marks.Array (λ at. name (λ s. then coordinates (λ c. enclosed marks.OpenBrace _ (λ z. then (states k) (λ ss. then members (λ ms. then steps (λ ts. skip marks.CloseBrace (λ e. end (record { at = at; name = s; sizes = c; states = ss; members = ms; steps = ts })))
    (λ o a x vs q. front (λ x. is_mark marks.Step x || never x) never q.1 refl)) (λ o a x vs q. members_free never o q.0 q.1 q.2 vs q.3 q.4)) (λ o a x vs q. states_free never o q.0 q.5.0 q.1 q.2 q.5.1 q.5.2 vs q.3 q.4 q.5.3 q.5.4)))
    (λ o a x vs q. never_free never vs))))
    (λ o x ws t.
    let c = t.3.3 in
    let ss = c.5.2 in
    let ms = ss.5 in
    let ts = ms.5 in
    subst (λ z. Fine ArrayFilled array_spelling o z ws) ts.5.2.0 (
      record { some_states = ss.4.0; some_steps = ts.4.0; filled_steps = ts.4.1 },
      t.2 ∙ ap (λ z. placed marks.Array t.0 ∷ z) (t.3.2 ∙ ap (λ z. Name t.3.0 ∷ z) (c.3 ∙ ap (λ z. z ++ c.2) c.4 ∙ ap (λ z. coordinates_spelling c.0 o ++ z) (c.5.1 ∙ ap (λ z. opener marks.OpenBrace o ∷ z)
          (ss.3 ∙ ap (λ z. z ++ ss.2) ss.4.2 ∙ ap (λ z. joined (suc o) (map state_spelling ss.0) ++ z) (ms.3 ∙ ap (λ z. z ++ ms.2) ms.4 ∙ ap (λ z. joined (suc o) (map member_spelling ms.0) ++ z)
          (ts.3 ∙ ap (λ z. z ++ ts.2) ts.4.2 ∙ ap (λ z. joined (suc o) (map step_spelling ts.0) ++ z) (ts.5.1 ∙ ap (λ z. bare marks.CloseBrace ∷ z) ts.5.2.1))))))),
    ))
    (λ o x ws e. (
      x.at,
      _,
      e.1,
      (
        x.name,
        _,
        refl,
        (
          x.sizes,
          coordinates_spelling x.sizes o,
          _,
          refl,
          refl,
          (
            _,
            refl,
            (
              x.states,
              joined (suc o) (map state_spelling x.states),
              _,
              refl,
              (e.0.some_states, any_all x.states, refl),
              (x.members, joined (suc o) (map member_spelling x.members), _, refl, refl, (x.steps, joined (suc o) (map step_spelling x.steps), bare marks.CloseBrace ∷ [], refl, (e.0.some_steps, e.0.filled_steps, refl), ([], refl, (refl, refl)))),
            ),
          ),
        ),
      ),
    ))

-- ---- answers

abbrev on_answer : Kind → Bool
on_answer k = is_mark marks.OpenBracket k || never k

how_at : (h : How) → is_mark marks.At (kinds.Mark (how_mark h)) ≡ false
how_at hows.Sum = refl
how_at _ = refl

answer : {k : ℕ} → Rule k (Fine Any answer_spelling) on_answer answer_at
unfolding answer_at cell_answer_at over_at
answer = in_words
    (mark marks.Answer (λ at. choice (is_mark marks.At)
    (skip marks.At (λ w. name (λ a. then coordinates (λ c. skip marks.Dot (λ d. name (λ s. last cells (λ i. the_answers.At at a c s i)))) (λ o a x vs q. never_free on_answer vs))))
    (how (λ h. name (λ a. skip marks.Dot (λ d. name (λ s. end (the_answers.Over at h a s))))))
    (λ o x ws is. top (is_mark marks.At) is.1 refl) (λ o x ws is. front (is_mark marks.At) on_answer is.2 (how_at is.0))))
    (λ o x ws t. (tt, by_case (λ g. cc) (λ g. cc) t.3))
    (λ o x ws e. answer_cases x ws o e.1
    (λ at h a s i w. (at, _, w, inr (h, _, refl, (a, _, refl, (_, refl, (s, [], refl, (i, refl)))))))
    (λ at a c s n i w. (at, _, w, inl (_, refl, (a, _, refl, (c, coordinates_spelling c o, _, refl, refl, (_, refl, (s, _, refl, (n, refl, i)))))))))
  where
    answer_cases : {C : Type 0} (x : AnswerDecl) (ws : List Word) (o : ℕ) → ws ≡ answer_spelling x o → ((at : ℕ) (h : How) (a s : Span) → the_answers.Over at h a s ≡ x → ws ≡ placed marks.Answer at ∷ bare (how_mark h) ∷ Name a ∷ bare marks.Dot ∷ Name s ∷ [] → C) →
        ((at : ℕ) (a : Span) (c : Coordinates) (s : Span) (n : Option Num) → the_answers.At at a c s n ≡ x → ws ≡ placed marks.Answer at ∷ bare marks.At ∷ Name a ∷ (coordinates_spelling c o ++ bare marks.Dot ∷ Name s ∷ maybe_spelling cell_spelling n o) → C) → C
    answer_cases (the_answers.Over at h a s) ws o e f g = f at h a s refl e
    answer_cases (the_answers.At at a c s n) ws o e f g = g at a c s n refl e

answer_heads : (o : ℕ) (x : AnswerDecl) → Headed (is_mark marks.Answer) (answer_spelling x o)
answer_heads o (the_answers.Over at h a s) = refl
answer_heads o (the_answers.At at a c s n) = refl

answers : {k : ℕ} → Rule k (FineSome Any answer_spelling) (λ x. is_mark marks.Answer x || on_answer x) answers_at
unfolding answers_at
answers = fine_some Any answer_spelling (is_mark marks.Answer) answer answer_heads (λ x e. ap on_answer (is_mark_same marks.Answer x e))

-- ---- a job

arrays : (k : ℕ) → Rule k (FineSome ArrayFilled array_spelling) (λ x. is_mark marks.Array x || never x) arrays_at
unfolding arrays_at
arrays k = fine_some ArrayFilled array_spelling (is_mark marks.Array) (array k) (λ o x. refl) (λ x e. refl)

answers_free : (o : ℕ) (xs : List AnswerDecl) (ws : List Word) → FineSome Any answer_spelling o xs ws → Free (λ x. is_mark marks.Array x || never x) (λ x. is_mark marks.Answer x || on_answer x) ws
answers_free o xs ws is =
    some_front answer_spelling (is_mark marks.Answer) (λ x. is_mark marks.Array x || never x) (λ x. is_mark marks.Answer x || on_answer x) o xs ws [] answer_heads (λ x h. ap (λ z. is_mark marks.Array z || never z) (is_mark_same marks.Answer x h)) is.0
    (is.2 ∙ sym (append-nil (joined o (map answer_spelling xs))))

-- the tokens with which a job goes on
abbrev pub on_job : Kind → Bool
on_job x = is_mark marks.Answer x || on_answer x

pub job : (k : ℕ) → Rule k (Fine JobFilled job_spelling) on_job job_at
unfolding job_at
job k = in_words
    (mark marks.Job (λ at. name (λ s. skip marks.Iterate (λ i. num (λ n. then (arrays k) (λ a. last answers (λ b. record { at = at; name = s; iterations = n; arrays = a; answers = b })) (λ o a x vs q. answers_free o q.0 vs q.1))))))
    (λ o x ws t.
    let a = t.3.3.2.3 in
    let b = a.5 in
    subst (λ z. Fine JobFilled job_spelling o z ws) b.2 (
      record { some_arrays = a.4.0; filled_arrays = a.4.1; some_answers = b.1.0 },
      t.2 ∙ ap (λ z. placed marks.Job t.0 ∷ z) (t.3.2 ∙ ap (λ z. Name t.3.0 ∷ z) (t.3.3.1 ∙ ap (λ z. bare marks.Iterate ∷ z) (t.3.3.2.2 ∙ ap (λ z. Number t.3.3.2.0 ∷ z)
          (a.3 ∙ ap (λ z. z ++ a.2) a.4.2 ∙ ap (λ z. joined o (map array_spelling a.0) ++ z) b.1.2)))),
    ))
    (λ o x ws e. (
      x.at,
      _,
      e.1,
      (
        x.name,
        _,
        refl,
        (
          _,
          refl,
          (
            x.iterations,
            _,
            refl,
            (
              x.arrays,
              joined o (map array_spelling x.arrays),
              joined o (map answer_spelling x.answers),
              refl,
              (e.0.some_arrays, e.0.filled_arrays, refl),
              (x.answers, (e.0.some_answers, any_all x.answers, refl), refl),
            ),
          ),
        ),
      ),
    ))

-- ---- what a loop reads has a token

pub part_shrinks : (n : ℕ) → Shrinks (part_at n)
part_shrinks n = rule_shrinks n (is_mark marks.When) part (λ x ws is. top (is_mark marks.When) is.1 refl)

pub step_shrinks : (n : ℕ) → Shrinks (step_at n)
step_shrinks n = rule_shrinks n (is_mark marks.Step) step (λ x ws is. top (is_mark marks.Step) is.1 refl)

pub state_shrinks : (n : ℕ) → Shrinks (state_at n)
state_shrinks n = rule_shrinks n (is_mark marks.State) (state (suc n)) (λ x ws is. top (is_mark marks.State) is.1 refl)

pub member_shrinks : (n : ℕ) → Shrinks (member_at n)
member_shrinks n = rule_shrinks n is_member member (λ x ws is. subst (Headed is_member) (sym is) (member_heads 0 x))

pub array_shrinks : (n : ℕ) → Shrinks (array_at n)
array_shrinks n = rule_shrinks n (is_mark marks.Array) (array (suc n)) (λ x ws is. top (is_mark marks.Array) is.1 refl)

pub answer_shrinks : (n : ℕ) → Shrinks (answer_at n)
answer_shrinks n = rule_shrinks n (is_mark marks.Answer) answer (λ x ws is. subst (Headed (is_mark marks.Answer)) (sym is.1) (answer_heads 0 x))
