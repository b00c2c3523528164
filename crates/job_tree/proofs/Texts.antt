-- What is read is a job, and where reading stops no job goes on.
use Rattle.std.proofs.Common.{◌≡◌, ℕ, suc, ◌+◌, ◌≤◌, ◌<◌, Bool, true, false, ◌⊎◌, inl, inr, List, [], ◌∷◌, ◌++◌, length, append_assoc, refl, ap, sym, ◌∙◌, arith, subst, Result, Ok, Err, IfOk, IfErr}
use Rattle.std.specs.Prelude.{IsTrue, not, ◌&&◌, nat_le}
use Rattle.std.specs.List.{list_all}
use Rattle.std.proofs.lemmas.Bool.{le-leb}
use Rattle.std.proofs.lemmas.List.{append-nil}
use Rattle.job_tree.specs.declared.fault.ParseFault.{ParseFault}
use Rattle.job_tree.specs.declared.fault.ParseFault.TheVariants as faults
use Rattle.job_tree.specs.declared.token.Kind.{Kind}
use Rattle.job_tree.specs.declared.token.Kind.TheVariants as kinds
use Rattle.job_tree.specs.declared.token.Token.{Token}
use Rattle.job_tree.specs.declared.tree.Job.{Job}
use Rattle.job_tree.specs.Tokens.{is_last, EndsOnce, ends_once, tokens}
use Rattle.job_tree.specs.Fault.{Why, Wrong, Deep, Stop, place, wrong, kind_fault, wrong_fault, why_fault, fault_of, as_fault, Fails, Gives}
use Rattle.job_tree.specs.Readers.{Read, Reader, and_then, ◌>>=◌, done, taken}
use Rattle.job_tree.specs.Reading.{end_in, end_at, finish, job_at, text_at}
use Rattle.job_tree.specs.Word.{Word, Name, Number, Marked, kind_of, level_of, Is, Spells}
use Rattle.job_tree.specs.Spelling.{job_spelling}
use Rattle.job_tree.specs.Accepted.{JobFilled, Whole, Front, IsJob, NoJob, OneJob, is_shallow, Ended, Begins, FirstAt, Never, Plain, Faulty}
use Rattle.job_tree.specs.Text.{OneTree, TextFault}
use Rattle.job_tree.proofs.Lists.{ok_same, err_same, left_of}
use Rattle.job_tree.proofs.Law.{Law, TooMany, bind_ok, bind_err}
use Rattle.job_tree.proofs.Joined.{bind_less}
use Rattle.job_tree.proofs.Rules.{By, ByWhy}
use Rattle.job_tree.proofs.Singles.{Fine}
use Rattle.job_tree.proofs.OfDeclarations.{job, on_job}

-- ---- words, and the tokens that they say

whole_parts : (l : ℕ) (ws : List Word) (ts : List Token) → Whole l ws ts → (front : List Token) × (z : Token) × (ts ≡ front ++ z ∷ []) × Spells l ws front × (z.kind ≡ kinds.End)
whole_parts l [] [] h = absurd h
whole_parts l [] (t ∷ ts) h = ([], t, ap (λ x. t ∷ x) h.1, tt, h.0)
whole_parts l (w ∷ ws) [] h = absurd h
whole_parts l (w ∷ ws) (t ∷ ts) h = let p = whole_parts l ws ts h.2 in (t ∷ p.0, p.1, ap (λ x. t ∷ x) p.2, (h.0, h.1, p.3), p.4)

whole_of : (l : ℕ) (ws : List Word) (front : List Token) (z : Token) → Spells l ws front → z.kind ≡ kinds.End → Whole l ws (front ++ z ∷ [])
whole_of l [] [] z h e = (e, refl)
whole_of l [] (t ∷ ts) z h e = absurd h
whole_of l (w ∷ ws) [] z h e = absurd h
whole_of l (w ∷ ws) (t ∷ ts) z h e = (h.0, h.1, whole_of l ws ts z h.2 e)

front_of : (l : ℕ) (ws more : List Word) (seen : List Token) → Spells l ws seen → Front l (ws ++ more) seen
front_of l [] more [] h = tt
front_of l [] more (t ∷ ts) h = absurd h
front_of l (w ∷ ws) more [] h = absurd h
front_of l (w ∷ ws) more (t ∷ ts) h = (h.0, h.1, front_of l ws more ts h.2)

front_end : (l : ℕ) (ws : List Word) (seen : List Token) (z : Token) → Spells l ws seen → z.kind ≡ kinds.End → Front l ws (seen ++ z ∷ [])
front_end l [] [] z h e = (e, refl)
front_end l [] (t ∷ ts) z h e = absurd h
front_end l (w ∷ ws) [] z h e = absurd h
front_end l (w ∷ ws) (t ∷ ts) z h e = (h.0, h.1, front_end l ws ts z h.2 e)

front_parts : (l : ℕ) (ws : List Word) (ts : List Token) → Front l ws ts →
    ((us more : List Word) × (ws ≡ us ++ more) × Spells l us ts) ⊎ ((front : List Token) × (z : Token) × (ts ≡ front ++ z ∷ []) × Spells l ws front × (z.kind ≡ kinds.End))
front_parts l ws [] h = inl ([], ws, refl, tt)
front_parts l [] (t ∷ ts) h = inr ([], t, ap (λ x. t ∷ x) h.1, tt, h.0)
front_parts l (w ∷ ws) (t ∷ ts) h = elim (front_parts l ws ts h.2) [
  | inl p ↦ inl (w ∷ p.0, p.1, ap (λ x. w ∷ x) p.2, (h.0, h.1, p.3))
  | inr p ↦ inr (t ∷ p.0, p.1, ap (λ x. t ∷ x) p.2, (h.0, h.1, p.3), p.4)
]

front_more : (n m : ℕ) (ws : List Word) (ts : List Token) → n ≤ m → Front n ws ts → Front m ws ts
front_more n m ws [] i h = tt
front_more n m [] (t ∷ ts) i h = h
front_more n m (w ∷ ws) (t ∷ ts) i h = (h.0, omega (arith, h.1), front_more n m ws ts i h.2)

-- the word of the next token
front_next : (n m : ℕ) (ws : List Word) (w : Word) (more : List Word) (seen : List Token) (t : Token) → n ≤ m → level_of w ≤ m → Spells n ws seen → Is w t → Front m (ws ++ w ∷ more) (seen ++ t ∷ [])
front_next n m [] w more [] t i l h is = (is, l, tt)
front_next n m [] w more (u ∷ us) t i l h is = absurd h
front_next n m (v ∷ ws) w more [] t i l h is = absurd h
front_next n m (v ∷ ws) w more (u ∷ us) t i l h is = (h.0, omega (arith, h.1), front_next n m ws w more us t i l h.2 is)

word_plain : (w : Word) → is_last (kind_of w) ≡ false
word_plain (Name s) = refl
word_plain (Number n) = refl
word_plain (Marked m p l) = refl

spells_plain : (n : ℕ) (ws : List Word) (front : List Token) (z : Token) → Spells n ws (front ++ z ∷ []) → is_last z.kind ≡ false
spells_plain n [] [] z h = absurd h
spells_plain n [] (t ∷ ts) z h = absurd h
spells_plain n (w ∷ ws) [] z h = ap is_last h.0.kind ∙ word_plain w
spells_plain n (w ∷ ws) (t ∷ ts) z h = spells_plain n ws ts z h.2

spells_levels : (n : ℕ) (ws : List Word) (ts : List Token) → Spells n ws ts → IsTrue (list_all (λ w. nat_le (level_of w) n) ws)
spells_levels n [] ts h = refl
spells_levels n (w ∷ ws) [] h = absurd h
spells_levels n (w ∷ ws) (t ∷ ts) h = ap (λ b. b && list_all (λ w. nat_le (level_of w) n) ws) (le-leb (level_of w) n h.1) ∙ spells_levels n ws ts h.2

-- ---- the end

end_is : (z : Token) (ts : List Token) → z.kind ≡ kinds.End → end_at (z ∷ ts) ≡ finish ts
unfolding end_at
end_is z ts e = ap (λ k. and_then (taken (end_in k z.at) z ts) (λ at. finish)) e

abbrev ended_at : ℕ → List Token → Read (Unit {0})
ended_at at = finish

end_ok : (ts : List Token) (r : Unit {0} × List Token) → end_at ts ≡ Ok r → (z : Token) × (ts ≡ z ∷ []) × (z.kind ≡ kinds.End) × (r.1 ≡ [])
unfolding end_at
end_ok [] r e = absurd cc
end_ok (t ∷ ts) r e = by t.kind refl e
  where
    finished : (ts : List Token) (r : Unit {0} × List Token) → finish ts ≡ Ok r → (ts ≡ []) × (r.1 ≡ [])
    finished [] r e = (refl, ap (λ (z : Unit {0} × List Token). z.1) (sym (ok_same (tt, []) r e)))
    finished (u ∷ ts) r e = absurd cc

    by : (k : Kind) → t.kind ≡ k → and_then (taken (end_in k t.at) t ts) (λ at. ended_at at) ≡ Ok r → (z : Token) × (t ∷ ts ≡ z ∷ []) × (z.kind ≡ kinds.End) × (r.1 ≡ [])
    by kinds.End h e = let v = finished ts r e in (t, ap (λ x. t ∷ x) v.0, h, v.1)
    by (kinds.Name s) h e = absurd cc
    by (kinds.Number n) h e = absurd cc
    by (kinds.Mark m) h e = absurd cc
    by kinds.Bad h e = absurd cc
    by kinds.TooLarge h e = absurd cc

-- where the end is missing
end_err : (ts : List Token) (s : Stop) → end_at ts ≡ Err s → (s.why ≡ Wrong) × ((s.left ≡ ts) ⊎ ((z : Token) × (u : Token) × (l : List Token) × (ts ≡ z ∷ u ∷ l) × (s.left ≡ u ∷ l) × (z.kind ≡ kinds.End)))
unfolding end_at
end_err [] s e = let same : wrong [] ≡ s = err_same {B = Unit {0} × List Token} (wrong []) s e in (ap (λ (x : Stop). x.why) (sym same), inl (ap (λ (x : Stop). x.left) (sym same)))
end_err (t ∷ ts) s e = by t.kind refl e
  where
    first : wrong (t ∷ ts) ≡ s → (s.why ≡ Wrong) × ((s.left ≡ t ∷ ts) ⊎ ((z : Token) × (u : Token) × (l : List Token) × (t ∷ ts ≡ z ∷ u ∷ l) × (s.left ≡ u ∷ l) × (z.kind ≡ kinds.End)))
    first same = (ap (λ (x : Stop). x.why) (sym same), inl (ap (λ (x : Stop). x.left) (sym same)))

    unfinished : (l : List Token) → finish l ≡ Err s → (u : Token) × (m : List Token) × (l ≡ u ∷ m) × (wrong (u ∷ m) ≡ s)
    unfinished [] e = absurd cc
    unfinished (u ∷ m) e = (u, m, refl, err_same {B = Unit {0} × List Token} (wrong (u ∷ m)) s e)

    by : (k : Kind) → t.kind ≡ k → and_then (taken (end_in k t.at) t ts) (λ at. ended_at at) ≡ Err s →
        (s.why ≡ Wrong) × ((s.left ≡ t ∷ ts) ⊎ ((z : Token) × (u : Token) × (l : List Token) × (t ∷ ts ≡ z ∷ u ∷ l) × (s.left ≡ u ∷ l) × (z.kind ≡ kinds.End)))
    by kinds.End h e = let v = unfinished ts e in (ap (λ (x : Stop). x.why) (sym v.3), inr (t, v.0, v.1, ap (λ x. t ∷ x) v.2, ap (λ (x : Stop). x.left) (sym v.3), h))
    by (kinds.Name n) h e = first (err_same {B = Unit {0} × List Token} (wrong (t ∷ ts)) s e)
    by (kinds.Number n) h e = first (err_same {B = Unit {0} × List Token} (wrong (t ∷ ts)) s e)
    by (kinds.Mark m) h e = first (err_same {B = Unit {0} × List Token} (wrong (t ∷ ts)) s e)
    by kinds.Bad h e = first (err_same {B = Unit {0} × List Token} (wrong (t ∷ ts)) s e)
    by kinds.TooLarge h e = first (err_same {B = Unit {0} × List Token} (wrong (t ∷ ts)) s e)

end_less : (ts : List Token) → length (left_of (end_at ts)) ≤ length ts
end_less ts = by (end_at ts) refl
  where
    by : (r : Read (Unit {0})) → end_at ts ≡ r → length (left_of r) ≤ length ts
    by (Ok x) e = let v = end_ok ts x e in omega (arith, ap length v.3)
    by (Err s) e = elim (end_err ts s e).1 [
      | inl h ↦ omega (arith, ap length h)
      | inr h ↦ omega (arith, ap length h.3, ap length h.4)
    ]

-- ---- a text

law : (n : ℕ) → Law n (Fine JobFilled job_spelling 0) on_job (job_at n)
law n = (job (suc n)).law n 0 n (omega arith) (omega arith)

abbrev closing : Job → Reader Job
closing j = end_at >>= λ e. done j

text_is : (n : ℕ) (ts : List Token) → text_at n ts ≡ and_then (job_at n ts) closing
unfolding text_at
text_is n ts = refl

-- what is read with end
is_read : (n : ℕ) (ts : List Token) (j : Job) → Whole n (job_spelling j 0) ts → JobFilled j → text_at n ts ≡ Ok (j, [])
is_read n ts j whole filled =
    let p = whole_parts n (job_spelling j 0) ts whole in
    let z = p.1 in
    let read = (law n).again j (job_spelling j 0) p.0 (z ∷ []) (filled, refl) p.3 (ap on_job p.4) in
    ap (text_at n) p.2 ∙ text_is n (p.0 ++ z ∷ []) ∙ ap (λ r. and_then r closing) read ∙ ap (λ r. and_then r (λ e. done j)) (end_is z [] p.4)

found : (n : ℕ) (ts : List Token) (j : Job) (seen : List Token) (ws : List Word) (z : Token) → seen ++ z ∷ [] ≡ ts → ws ≡ job_spelling j 0 → Whole n ws (seen ++ z ∷ []) → Whole n (job_spelling j 0) ts
found n ts j seen ws z e w h = subst (λ l. Whole n (job_spelling j 0) l) e (subst (λ us. Whole n us (seen ++ z ∷ [])) w h)

found_is : (n : ℕ) (ts : List Token) (r : Job × List Token) → text_at n ts ≡ Ok r → Whole n (job_spelling r.0 0) ts × JobFilled r.0
found_is n ts r e =
    let x = bind_ok (job_at n ts) closing r (sym (text_is n ts) ∙ e) in
    let y = bind_ok (end_at x.1) (λ e. done x.0) r x.3 in
    let v = (law n).reads ts (x.0, x.1) x.2 in
    let z = end_ok x.1 (y.0, y.1) y.2 in
    told x.0 x.1 y.1 v.0 v.1 z.0 v.2 z.1 v.4.1 (whole_of n v.1 v.0 z.0 v.3 z.2) v.4.0 (ok_same (x.0, y.1) r y.3)
  where
    told : (j : Job) (rest left seen : List Token) (ws : List Word) (z : Token) → ts ≡ seen ++ rest → rest ≡ z ∷ [] → ws ≡ job_spelling j 0 → Whole n ws (seen ++ z ∷ []) → JobFilled j → (j, left) ≡ r → Whole n (job_spelling r.0 0) ts × JobFilled r.0
    told j rest left seen ws z e f w whole filled same =
        let P : Job × List Token → Type 0 = λ q. Whole n (job_spelling q.0 0) ts × JobFilled q.0 in
        subst P same (found n ts j seen ws z (ap (λ l. seen ++ l) (sym f) ∙ sym e) w whole, filled)

abbrev answer : Job → Read Job
answer j = Ok (j, [])

not_both : (j : Job) (s : Stop) → answer j ≡ Err s → ⊥
not_both j s h = absurd cc

one : OneJob
one ts a b s t =
    let same : (a, []) ≡ (b, []) = ok_same (a, []) (b, []) (sym (is_read 32 ts a s.spelled s.filled) ∙ is_read 32 ts b t.spelled t.filled) in
    ap (λ (z : Job × List Token). z.0) same

pub one_job : OneJob
one_job = one

-- ---- where reading stops

-- the word of a token that is too deep
abbrev Deeper : ℕ → List Token → Stop → Type 0
Deeper n seen s = (t : Token) (left : List Token) → s.why ≡ Deep → s.left ≡ t ∷ left → (m : ℕ) × Begins m (seen ++ t ∷ [])

too_deep : (n : ℕ) (j : Job) (ws more : List Word) (seen : List Token) (s : Stop) → JobFilled j → ws ++ more ≡ job_spelling j 0 → Spells n ws seen → (why : Why) → s.why ≡ why → TooMany n why more s.left → Deeper n seen s
too_deep n j ws more seen s filled e a Wrong w h t left d l = absurd (not_deep (sym w ∙ d))
  where
    is_deep : Why → Bool
    is_deep Wrong = false
    is_deep Deep = true

    not_deep : Wrong ≡ Deep → ⊥
    not_deep e = let f : false ≡ true = ap is_deep e in cc
too_deep n j ws [] seen s filled e a Deep w h t left d l = absurd h
too_deep n j ws (x ∷ more) seen s filled e a Deep w h t left d l =
    let at : Is x t × (n < level_of x) = subst (λ z. TooMany n Deep (x ∷ more) z) l h in
    (level_of x, (j, filled, subst (λ z. Front (level_of x) z (seen ++ t ∷ [])) e (front_next n (level_of x) ws x more seen t (omega (arith, at.1)) (omega arith) a at.0)))

viable : (n : ℕ) (ts : List Token) (s : Stop) → text_at n ts ≡ Err s → (seen : List Token) × (ts ≡ seen ++ s.left) × Begins n seen × Deeper n seen s
viable n ts s e = elim (bind_err (job_at n ts) closing s (sym (text_is n ts) ∙ e)) [
  | inl h ↦
      let v = (law n).viable ts s h in
      (v.0, v.4, (v.2, v.6.0, subst (λ ws. Front n ws v.0) v.6.1 (front_of n v.1 v.3 v.0 v.5)), too_deep n v.2 v.1 v.3 v.0 s v.6.0 v.6.1 v.5 s.why refl v.7)
  | inr x ↦ elim (bind_err (end_at x.1) (λ e. done x.0) s x.3) [
    | inl h ↦
        let v = (law n).reads ts (x.0, x.1) x.2 in
        let w = end_err x.1 s h in
        let wrong_one : (seen : List Token) → Deeper n seen s = λ seen t left d l. absurd (wrong_not_deep (sym w.0 ∙ d)) in
        elim w.1 [
          | inl l ↦ (v.0, v.2 ∙ ap (λ z. v.0 ++ z) (sym l), (x.0, v.4.0, subst (λ ws. Front n ws v.0) (append-nil v.1 ∙ v.4.1) (front_of n v.1 [] v.0 v.3)), wrong_one v.0)
          | inr l ↦ (
            v.0 ++ l.0 ∷ [],
            v.2 ∙ ap (λ z. v.0 ++ z) (l.3 ∙ ap (λ z. l.0 ∷ z) (sym l.4)) ∙ sym (append_assoc v.0 (l.0 ∷ []) s.left),
            (x.0, v.4.0, subst (λ ws. Front n ws (v.0 ++ l.0 ∷ [])) v.4.1 (front_end n v.1 v.0 l.0 v.3 l.5)),
            wrong_one (v.0 ++ l.0 ∷ []),
          )
        ]
    | inr y ↦ absurd cc
  ]
]
  where
    is_deep : Why → Bool
    is_deep Wrong = false
    is_deep Deep = true

    wrong_not_deep : Wrong ≡ Deep → ⊥
    wrong_not_deep e = let f : false ≡ true = ap is_deep e in cc

text_less : (n : ℕ) (ts : List Token) → length (left_of (text_at n ts)) ≤ length (left_of (job_at n ts))
text_less n ts =
    omega (arith, ap (λ r. length (left_of r)) (text_is n ts), bind_less (job_at n ts) closing (λ j l. omega (arith, end_less l, bind_less (end_at l) (λ e. done j) (λ e m. omega arith))))

last_same : (us : List Token) (t : Token) (vs : List Token) (z : Token) → us ++ t ∷ [] ≡ vs ++ z ∷ [] → (us ≡ vs) × (t ≡ z)
last_same [] t [] z e = let same : t ≡ z = cc in (refl, same)
last_same [] t (v ∷ []) z e = absurd cc
last_same [] t (v ∷ w ∷ vs) z e = absurd cc
last_same (u ∷ []) t [] z e = absurd cc
last_same (u ∷ w ∷ us) t [] z e = absurd cc
last_same (u ∷ us) t (v ∷ vs) z e =
    let head : u ≡ v = cc in
    let tail : us ++ t ∷ [] ≡ vs ++ z ∷ [] = cc in
    let p = last_same us t vs z tail in
    (ap (λ x. x ∷ us) head ∙ ap (λ x. v ∷ x) p.0, p.1)

-- where reading stops at a token no job goes on with it, with n levels
past : (n : ℕ) (seen : List Token) (t : Token) (left : List Token) (s : Stop) → s.left ≡ t ∷ left → text_at n (seen ++ t ∷ left) ≡ Err s → Begins n (seen ++ t ∷ []) → ⊥
past n seen t left s at e b =
    let here : (seen ++ t ∷ []) ++ left ≡ seen ++ t ∷ left = append_assoc seen (t ∷ []) left in
    let stops : length (left_of (text_at n (seen ++ t ∷ left))) ≡ suc (length left) = ap (λ r. length (left_of r)) e ∙ ap length at in
    elim (front_parts n (job_spelling b.0 0) (seen ++ t ∷ []) b.2) [
      | inl p ↦ omega (arith, stops, text_less n (seen ++ t ∷ left), ap (λ l. length (left_of (job_at n l))) here, (law n).passes b.0 p.0 p.1 (seen ++ t ∷ []) left (b.1, sym p.2) p.3)
      | inr p ↦
          let q = last_same seen t p.0 p.1 p.2 in
          let end : t.kind ≡ kinds.End = ap (λ (x : Token). x.kind) q.1 ∙ p.4 in
          let read = (law n).again b.0 (job_spelling b.0 0) seen (t ∷ left) (b.1, refl) (subst (λ l. Spells n (job_spelling b.0 0) l) (sym q.0) p.3) (ap on_job end) in
          ended left at (sym e ∙ text_is n (seen ++ t ∷ left) ∙ ap (λ r. and_then r closing) read ∙ ap (λ r. and_then r (λ e. done b.0)) (end_is t left end))
    ]
  where
    ended : (left : List Token) → s.left ≡ t ∷ left → Err s ≡ and_then (finish left) (λ e. done b.0) → ⊥
    ended [] at e = absurd cc
    ended (u ∷ l) at e = let same : s ≡ wrong (u ∷ l) = err_same {B = Job × List Token} s (wrong (u ∷ l)) e in omega (arith, ap length at, ap (λ (x : Stop). length x.left) same)

-- a wrong token is wrong at more levels
never : (n : ℕ) (seen : List Token) (t : Token) (left : List Token) (s : Stop) → s.why ≡ Wrong → s.left ≡ t ∷ left → text_at n (seen ++ t ∷ left) ≡ Err s → Never seen t
never n seen t left s why at e last b =
    let m : ℕ = n + last in
    let ts = seen ++ t ∷ left in
    let by : By (job_at n ts) (job_at m ts) = (job (suc n)).grows n m (omega arith) (omega arith) ts in
    past m seen t left s at (text_is m ts ∙ same (job_at n ts) (job_at m ts) by (sym (text_is n ts) ∙ e)) (b.0, b.1, front_more last m (job_spelling b.0 0) (seen ++ t ∷ []) (omega arith) b.2)
  where
    why_same : (w : Why) → w ≡ Wrong → (d : Stop) (r : Read Job) → ByWhy w d r → r ≡ Err d
    why_same Wrong e d r h = h
    why_same Deep e d r h = absurd cc

    same : (r r' : Read Job) → By r r' → and_then r closing ≡ Err s → and_then r' closing ≡ Err s
    same (Ok x) r' h e = ap (λ z. and_then z closing) h ∙ e
    same (Err d) r' h e =
        let here : d ≡ s = err_same {B = Job × List Token} d s e in
        ap (λ z. and_then z closing) (why_same d.why (ap (λ (x : Stop). x.why) here ∙ why) d r' h) ∙ e

-- a token is left, if the last one is a last token
stops_at : (n : ℕ) (front : List Token) (z : Token) (s : Stop) → is_last z.kind ≡ true → text_at n (front ++ z ∷ []) ≡ Err s → (t : Token) × (l : List Token) × (s.left ≡ t ∷ l)
stops_at n front z s is e = elim (bind_err (job_at n (front ++ z ∷ [])) closing s (sym (text_is n (front ++ z ∷ [])) ∙ e)) [
  | inl h ↦ let v = (law n).viable (front ++ z ∷ []) s h in left_one s.left v.0 v.1 v.4 v.5
  | inr x ↦ elim (bind_err (end_at x.1) (λ e. done x.0) s x.3) [
    | inl h ↦
        let v = (law n).reads (front ++ z ∷ []) (x.0, x.1) x.2 in
        elim (end_err x.1 s h).1 [
          | inl l ↦ left_one s.left v.0 v.1 (v.2 ∙ ap (λ z. v.0 ++ z) (sym l)) v.3
          | inr l ↦ (l.1, l.2, l.4)
        ]
    | inr y ↦ absurd cc
  ]
]
  where
    left_one : (left seen : List Token) (ws : List Word) → front ++ z ∷ [] ≡ seen ++ left → Spells n ws seen → (t : Token) × (l : List Token) × (left ≡ t ∷ l)
    left_one (t ∷ l) seen ws e a = (t, l, refl)
    left_one [] seen ws e a =
        let plain : is_last z.kind ≡ false = spells_plain n ws front z (subst (λ l. Spells n ws l) (sym (e ∙ append-nil seen)) a) in
        let no : true ≡ false = sym is ∙ plain in
        absurd cc

-- ---- each fault

module _ (tokens : List Token) (s : Stop) (e : text_at 32 tokens ≡ Err s) (ended : Ended tokens) where
  first : (at : ℕ) (Told : List Token → Token → Type 0) → place s.left ≡ at →
      ((seen : List Token) (t : Token) (left : List Token) → s.left ≡ t ∷ left → text_at 32 (seen ++ t ∷ left) ≡ Err s → Deeper 32 seen s → Told seen t) → FirstAt tokens at Told
  first at Told placed told =
      let v = viable 32 tokens s e in
      let q = stops_at 32 ended.0 ended.1 s ended.3 (ap (text_at 32) (sym ended.2) ∙ e) in
      let here : tokens ≡ v.0 ++ q.0 ∷ q.1 = v.1 ∙ ap (λ l. v.0 ++ l) q.2 in
      let stops : text_at 32 (v.0 ++ q.0 ∷ q.1) ≡ Err s = ap (text_at 32) (sym here) ∙ e in
      record {
        seen = v.0;
        token = q.0;
        left = q.1;
        parts = here;
        placed = ap place (sym q.2) ∙ placed;
        begins = v.2;
        ends = past 32 v.0 q.0 q.1 s q.2 stops;
        told = told v.0 q.0 q.1 q.2 stops v.3;
      }

  same_head : (t u : Token) (l left : List Token) → s.left ≡ t ∷ l → s.left ≡ u ∷ left → u ≡ t
  same_head t u l left a b = let same : u ∷ left ≡ t ∷ l = sym b ∙ a in cc

  plain_at : (k : Kind) (t : Token) (l : List Token) → s.why ≡ Wrong → s.left ≡ t ∷ l → t.kind ≡ k → Plain k → FirstAt tokens t.at (λ seen token. Plain token.kind × Never seen token)
  plain_at k t l why at h plain =
      first t.at (λ seen token. Plain token.kind × Never seen token) (ap place at)
      (λ seen u left here stops d. (subst (λ x. Plain x) (sym (ap (λ (x : Token). x.kind) (same_head t u l left at here) ∙ h)) plain, never 32 seen u left s why here stops))

  by_kind : (k : Kind) (t : Token) (l : List Token) → s.why ≡ Wrong → s.left ≡ t ∷ l → t.kind ≡ k → Faulty tokens (kind_fault k t.at)
  by_kind kinds.Bad t l why at k =
      first t.at (λ seen token. (token.kind ≡ kinds.Bad) × Never seen token) (ap place at) (λ seen u left here stops d. (ap (λ (x : Token). x.kind) (same_head t u l left at here) ∙ k, never 32 seen u left s why here stops))
  by_kind kinds.TooLarge t l why at k =
      first t.at (λ seen token. (token.kind ≡ kinds.TooLarge) × Never seen token) (ap place at) (λ seen u left here stops d. (ap (λ (x : Token). x.kind) (same_head t u l left at here) ∙ k, never 32 seen u left s why here stops))
  by_kind kinds.End t l why at k = plain_at kinds.End t l why at k tt
  by_kind (kinds.Name n) t l why at k = plain_at (kinds.Name n) t l why at k tt
  by_kind (kinds.Number n) t l why at k = plain_at (kinds.Number n) t l why at k tt
  by_kind (kinds.Mark m) t l why at k = plain_at (kinds.Mark m) t l why at k tt

  by_why : (w : Why) → s.why ≡ w → Faulty tokens (why_fault w s.left)
  by_why Wrong why =
      let q = stops_at 32 ended.0 ended.1 s ended.3 (ap (text_at 32) (sym ended.2) ∙ e) in
      let P : List Token → Type 0 = λ l. Faulty tokens (wrong_fault l) in
      subst P (sym q.2) (by_kind q.0.kind q.0 q.1 why q.2 refl)
  by_why Deep why = first (place s.left) (λ seen token. (last : ℕ) × Begins last (seen ++ token ∷ [])) refl (λ seen t left here stops d. d t left why here)

  stop_faulty : Faulty tokens (fault_of s)
  stop_faulty = by_why s.why refl

-- ---- what a reader answers

stop_of : (f : ParseFault) (r : Read Job) → as_fault r ≡ Err f → (s : Stop) × (r ≡ Err s)
stop_of f (Ok x) e = absurd cc
stop_of f (Err s) e = (s, refl)

fault_stop : (f : ParseFault) (r : Read Job) → (f ≡ faults.Memory → ⊥) → Fails f r → (as_fault r ≡ Err f) × (s : Stop) × (r ≡ Err s)
fault_stop faults.Memory r h e = absurd (h refl)
fault_stop (faults.TooLong at) r h e = let v = stop_of (faults.TooLong at) r e in (e, v.0, v.1)
fault_stop (faults.NotToken at) r h e = let v = stop_of (faults.NotToken at) r e in (e, v.0, v.1)
fault_stop (faults.NumberTooLarge at) r h e = let v = stop_of (faults.NumberTooLarge at) r e in (e, v.0, v.1)
fault_stop (faults.Unexpected at) r h e = let v = stop_of (faults.Unexpected at) r e in (e, v.0, v.1)
fault_stop (faults.TooDeep at) r h e = let v = stop_of (faults.TooDeep at) r e in (e, v.0, v.1)

abbrev failed : ParseFault → Result (Job × List Token) ParseFault
failed f = Err f

failed_same : (c d : ParseFault) → failed c ≡ failed d → c ≡ d
failed_same c d e = cc

fault_is : (f : ParseFault) (ts : List Token) → (f ≡ faults.Memory → ⊥) → Fails f (text_at 32 ts) → Ended ts → Faulty ts f
fault_is f ts plain e ended =
    let s = fault_stop f (text_at 32 ts) plain e in
    let same : fault_of s.1 ≡ f = failed_same (fault_of s.1) f (ap as_fault (sym s.2) ∙ s.0) in
    subst (λ x. Faulty ts x) same (stop_faulty ts s.1 s.2 ended)

fault_faulty : (f : ParseFault) (ts : List Token) → Fails f (text_at 32 ts) → Ended ts → Faulty ts f
fault_faulty faults.Memory ts e ended = tt
fault_faulty (faults.TooLong at) ts e ended = fault_is (faults.TooLong at) ts (λ h. absurd cc) e ended
fault_faulty (faults.NotToken at) ts e ended = fault_is (faults.NotToken at) ts (λ h. absurd cc) e ended
fault_faulty (faults.NumberTooLarge at) ts e ended = fault_is (faults.NumberTooLarge at) ts (λ h. absurd cc) e ended
fault_faulty (faults.Unexpected at) ts e ended = fault_is (faults.Unexpected at) ts (λ h. absurd cc) e ended
fault_faulty (faults.TooDeep at) ts e ended = fault_is (faults.TooDeep at) ts (λ h. absurd cc) e ended

pub all_faulty : (r : Result Job ParseFault) (ts : List Token) → Gives (λ job. (job, [])) r (text_at 32 ts) → IfErr r (λ f. Ended ts → Faulty ts f)
all_faulty (Ok j) ts e = tt
all_faulty (Err f) ts e = fault_faulty f ts e

pub all_found : (r : Result Job ParseFault) (ts : List Token) → Gives (λ job. (job, [])) r (text_at 32 ts) → IfOk r (λ job. IsJob ts job)
all_found (Ok j) ts e = let v = found_is 32 ts (j, []) e in record { spelled = v.0; filled = v.1 }
all_found (Err f) ts e = tt

pub all_refused : (r : Result Job ParseFault) (ts : List Token) → Gives (λ job. (job, [])) r (text_at 32 ts) → IfErr r (λ f. (f ≡ faults.Memory → ⊥) → NoJob ts)
all_refused (Ok j) ts e = tt
all_refused (Err f) ts e = λ plain j is. let s = fault_stop f (text_at 32 ts) plain e in not_both j s.1 (sym (is_read 32 ts j is.spelled is.filled) ∙ s.2)

-- a job that was found opens 32 levels at most
shallow : (ts : List Token) (j : Job) → IsJob ts j → IsTrue (is_shallow 32 j)
unfolding is_shallow
shallow ts j is = let p = whole_parts 32 (job_spelling j 0) ts is.spelled in spells_levels 32 (job_spelling j 0) p.0 p.3

pub all_shallow : (r : Result Job ParseFault) (ts : List Token) → Gives (λ job. (job, [])) r (text_at 32 ts) → IfOk r (λ job. IsTrue (is_shallow 32 job))
all_shallow (Ok j) ts e = let v = found_is 32 ts (j, []) e in shallow ts j (record { spelled = v.0; filled = v.1 })
all_shallow (Err f) ts e = tt

-- ---- texts

pub one_tree : OneTree
one_tree text a b ra rb = one_job (tokens text) a b ra.spells rb.spells

-- tokens that end once end as those of a text do
ended : (ts : List Token) → IsTrue (ends_once ts) → Ended ts
ended [] h = absurd cc
ended (t ∷ []) h = ([], t, refl, h)
ended (t ∷ u ∷ more) h =
    let rest = ended (u ∷ more) (and_right (not (is_last t.kind)) (ends_once (u ∷ more)) h) in (t ∷ rest.0, rest.1, ap (λ l. t ∷ l) rest.2, rest.3)
  where
    and_right : (a b : Bool) → IsTrue (a && b) → IsTrue b
    and_right true b h = h
    and_right false b h = cc

-- a fault of the tokens is one of the text
text_fault : (text : List ℕ) (f : ParseFault) → length text ≤ 65536 → Faulty (tokens text) f → TextFault text f
text_fault text faults.Memory h is = tt
text_fault text (faults.TooLong at) h is = absurd is
text_fault text (faults.NotToken at) h is = (h, is)
text_fault text (faults.NumberTooLarge at) h is = (h, is)
text_fault text (faults.Unexpected at) h is = (h, is)
text_fault text (faults.TooDeep at) h is = (h, is)

-- the fault that a reader gave of a text's tokens
pub read_fault : EndsOnce → (text : List ℕ) (ts : List Token) (f : ParseFault) → length text ≤ 65536 → ts ≡ tokens text → (Ended ts → Faulty ts f) → TextFault text f
read_fault once text ts f h is told =
    text_fault text f h (subst (λ (l : List Token). Faulty l f) is (told (ended ts (ap ends_once is ∙ once text))))
