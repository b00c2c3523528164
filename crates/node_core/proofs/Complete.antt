-- Once all members contributed, what they make was sent.
use Rattle.std.proofs.Common.{◌≡◌, ℕ, zero, suc, ◌+◌, ◌<◌, ◌≤◌, inl, inr, ℤ, Bool, true, false, cond, List, [], ◌∷◌, ◌++◌, length, append_assoc, refl, ap, sym, ◌∙◌, arith, subst, Option, Some, None, IsSome}
use Rattle.std.specs.Prelude.{◌⊎◌, ◌&&◌, ◌==◌, IfSome, is_some, slice_get, slice_index_or}
use Rattle.std.specs.List.{AllByRecursion, list_all}
use Rattle.std.proofs.lemmas.Bool.{eqb-true, eq-eqb}
use Rattle.std.proofs.lemmas.Bool.Decides.{nat_tests}
use Rattle.std.proofs.lemmas.List.{append-nil}
use Rattle.std.proofs.lemmas.Option.{same_Some}
use Rattle.chare_base.specs.declared.message.ReductionId.{ReductionId}
use Rattle.chare_base.specs.declared.plan.Plan.{Plan}
use Rattle.chare_base.specs.Elements.{place_of}
use Rattle.chare_base.specs.Placing.{members}
use Rattle.chare_eval.specs.Laws.{contribution_of}
use Rattle.letter_post.specs.Stamps.{lines_of, same_stamp}
use Rattle.letter_post.specs.Truth.{node_members}
use Rattle.object_steps.specs.Objects.{Progress}
use Rattle.node_core.specs.Gatherings.{Gathering, gathering_of, is_of}
use Rattle.node_core.specs.Keeps.{Alive, IsGathering, IsSharing, element_of, share_of}
use Rattle.node_core.specs.Mail.{BodyDid, BodyOwes, Contributed, Given, HasContributed, PartialWasSent, ShareCame, SharesAreSent, TotalsAreSent, TotalsWereSent, given_in, reduction_id}
use Rattle.node_core.specs.Nodes.{Body}
use Rattle.node_core.specs.Rosters.{count_in, node_count, nodes_with, number_in, rank_of, ranks_after, roster_of, sharers_of, shares}
use Rattle.node_core.proofs.Gathering.{gives_length}
use Rattle.node_core.proofs.Hearing.{into_shares}
use Rattle.node_core.proofs.Lists.{all_behind, all_to, got_at}
use Rattle.node_core.proofs.Moving.{numbered_got}
use Rattle.node_core.proofs.Passed.{got_below}
use Rattle.node_core.proofs.Ranking.{other_same, own_more}
use Rattle.node_core.proofs.Seats.{numbered, sharers_are}
use Rattle.node_core.proofs.Sending.{into_gathers}

-- ---- all of a list is there

all_some : (given : List (Option ℤ)) → ((i : ℕ) → i < length given → IsSome (slice_index_or given i None)) → list_all is_some given ≡ true
all_some [] each = refl
all_some (None ∷ more) each = absurd (let q : false ≡ true = each 0 (omega arith) in cc)
all_some (Some v ∷ more) each = all_some more (λ i h. each (suc i) (omega (arith, h)))

-- what is found in a list is one of it
found_one : (P : Gathering → Type 0) (r : ReductionId) (k : ℕ) (all : List Gathering) (g : Gathering) → AllByRecursion P all → gathering_of r k all ≡ Some g → P g × (is_of r k g ≡ true)
found_one P r k [] g h is = absurd (let q : None ≡ Some g = is in cc)
found_one P r k (x ∷ more) g h is = by (is_of r k x) refl is (found_one P r k more g h.1)
  where
    by : (b : Bool) → is_of r k x ≡ b → cond b (Some x) (gathering_of r k more) ≡ Some g → (gathering_of r k more ≡ Some g → P g × (is_of r k g ≡ true)) → P g × (is_of r k g ≡ true)
    by true own q rest = let same : x ≡ g = same_Some x g q in (subst P same h.0, subst (λ y. is_of r k y ≡ true) same own)
    by false own q rest = rest q

-- of each of the first n, or something else
each_or : (P : ℕ → Type 0) (Q : Type 0) (n : ℕ) → ((i : ℕ) → i < n → P i ⊎ Q) → ((i : ℕ) → i < n → P i) ⊎ Q
each_or P Q zero each = inl (λ i h. absurd (omega (arith, h)))
each_or P Q (suc n) each = by (each n (omega arith)) (each_or P Q n (λ i h. each i (omega (arith, h))))
  where
    last : P n → ((i : ℕ) → i < n → P i) → (i : ℕ) → i < suc n → P i
    last here before i h = which (i == n) refl
      where
        which : (b : Bool) → (i == n) ≡ b → P i
        which true is = subst P (sym (eqb-true i n is)) here
        which false is = before i (grind (arith, nat_tests, is, h))

    by : P n ⊎ Q → (((i : ℕ) → i < n → P i) ⊎ Q) → ((i : ℕ) → i < suc n → P i) ⊎ Q
    by (inr q) before = inr q
    by (inl p) (inr q) = inr q
    by (inl p) (inl before) = inl (last p before)

-- ---- each rank is an element's

-- an element of an array with a rank
record AtRank (p : Plan) (es ranks : List ℕ) (array rank : ℕ) : Type 0 where
  at : ℕ
  element : ℕ
  there : slice_get es at ≡ Some element
  own : (place_of p element).array ≡ array
  rank_is : slice_index_or ranks at 0 ≡ rank

rank_reached : (p : Plan) (array : ℕ) (before es : List ℕ) (rank : ℕ) → count_in p array before ≤ rank → rank < count_in p array (before ++ es) → AtRank p es (ranks_after p before es) array rank
rank_reached p array before [] rank low high = absurd (let same = ap (count_in p array) (append-nil before) in omega (arith, low, high, same))
rank_reached p array before (e ∷ more) rank low high = by ((place_of p e).array == array) refl (rank == count_in p array before) refl (rank_reached p array (before ++ e ∷ []) more rank)
  where
    whole : count_in p array ((before ++ e ∷ []) ++ more) ≡ count_in p array (before ++ e ∷ more)
    whole = ap (count_in p array) (append_assoc before (e ∷ []) more)

    later : AtRank p more (ranks_after p (before ++ e ∷ []) more) array rank → AtRank p (e ∷ more) (ranks_after p before (e ∷ more)) array rank
    later r = record { at = suc r.at; element = r.element; there = r.there; own = r.own; rank_is = r.rank_is }

    by : (b : Bool) → ((place_of p e).array == array) ≡ b → (c : Bool) → (rank == count_in p array before) ≡ c →
        (count_in p array (before ++ e ∷ []) ≤ rank → rank < count_in p array ((before ++ e ∷ []) ++ more) → AtRank p more (ranks_after p (before ++ e ∷ []) more) array rank) →
        AtRank p (e ∷ more) (ranks_after p before (e ∷ more)) array rank
    by true own true is rest =
        let mine = eqb-true (place_of p e).array array own in
        record { at = 0; element = e; there = refl; own = mine; rank_is = ap (λ a. count_in p a before) mine ∙ sym (eqb-true rank (count_in p array before) is) }
    by true own false is rest =
        let more_one = own_more p before e array (eqb-true (place_of p e).array array own) in
        let above : count_in p array before < rank = grind (arith, nat_tests, is, low) in
        later (rest (omega (arith, more_one, above)) (omega (arith, whole, high)))
    by false own c is rest =
        let same = other_same p before e array (λ at. let q : true ≡ false = sym (eq-eqb (place_of p e).array array at) ∙ own in cc) in
        later (rest (omega (arith, same, low)) (omega (arith, whole, high)))

rank_there : (p : Plan) (place : List ℕ) (j array rank : ℕ) → rank < count_in p array (members place j) → AtRank p (members place j) (roster_of p place j).ranks array rank
unfolding roster_of
rank_there p place j array rank h = rank_reached p array [] (members place j) rank (omega arith) h

-- the object of an element's place
object_there : (all : List Progress) (es : List ℕ) (m e : ℕ) → Rattle.std.specs.Prelude.map element_of all ≡ es → slice_get es m ≡ Some e → (o : Progress) × (slice_get all m ≡ Some o) × (o.element.0 ≡ e)
object_there all es m e same h = go all m (ap (λ l. slice_get l m) same ∙ h)
  where
    go : (xs : List Progress) (n : ℕ) → slice_get (Rattle.std.specs.Prelude.map element_of xs) n ≡ Some e → (o : Progress) × (slice_get xs n ≡ Some o) × (o.element.0 ≡ e)
    go [] n q = absurd (let z : None ≡ Some e = q in cc)
    go (x ∷ xs) zero q = (x, refl, same_Some x.element.0 e q)
    go (x ∷ xs) (suc n) q = go xs n q

-- a gathering that isn't there shows nothing; one that shows all is whole
whole_not : (P : Gathering → Type 0) (own_length : Gathering → ℕ) (r k : ℕ) (all : List Gathering) (i : ℕ) →
    AllByRecursion P all → ((g : Gathering) → is_of (reduction_id r) k g ≡ true → P g → (list_all is_some g.gathered.given ≡ false) × (length g.gathered.given ≤ own_length g)) →
    ((g : Gathering) → is_of (reduction_id r) k g ≡ true → P g → (m : ℕ) → m < own_length g → Given all r k m) → Given all r k i → ⊥
whole_not P own_length r k all i kept missing each there = by (gathering_of (reduction_id r) k all) refl there
  where
    by : (o : Option Gathering) → gathering_of (reduction_id r) k all ≡ o → IsSome (given_in o i) → ⊥
    by None is h = let q : false ≡ true = h in cc
    by (Some g) is h =
        let one = found_one P (reduction_id r) k all g kept is in
        let gone = missing g one.1 one.0 in
        let every : list_all is_some g.gathered.given ≡ true =
        all_some g.gathered.given (λ m below. let few = gone.1 in subst (λ o. IsSome (given_in o m)) is (each g one.1 one.0 m (omega (arith, below, few)))) in
        let q : true ≡ false = sym every ∙ gone.0 in cc

pub shares_are_sent : SharesAreSent
shares_are_sent p script place K r k i log n b x o keeps owes is there at own all = settle (each_or Shown Sent_on (length ms) one)
  where
    alive : Alive p script place n b
    alive = subst (λ c. IfSome c (Alive p script place n)) is keeps.body

    owing : BodyOwes p place K log n b
    owing = subst (λ c. IfSome c (BodyOwes p place K log n)) is owes

    ms : List ℕ
    ms = node_members p place x n.slot.node

    Sent_on : Type 0
    Sent_on = PartialWasSent n.last.stamp r k n.slot.node log

    Shown : ℕ → Type 0
    Shown m = Given b.gatherings r k m

    -- an object of the array has its contribution gathered, or the share was sent
    of_object : (m : ℕ) (q : Progress) → slice_get b.objects m ≡ Some q → (place_of p q.element.0).array ≡ x.owner → Given b.gatherings r k (rank_of n.roster m) ⊎ PartialWasSent n.last.stamp r k n.slot.node log
    of_object m q h mine =
        let has : HasContributed p r k q = got_at (λ other. (place_of p other.element.0).array ≡ x.owner → HasContributed p r k other) b.objects m q all h mine in
        let zero_plus : 0 + m ≡ m = omega arith in
        let paid : Contributed p n b log m q = subst (λ w. Contributed p n b log w q) zero_plus (numbered_got (Contributed p n b log) 0 m b.objects q owing.contributed h) in
        paid r has.step has.part k has.gives has.past

    one : (m : ℕ) → m < length (node_members p place x n.slot.node) → Given b.gatherings r k m ⊎ PartialWasSent n.last.stamp r k n.slot.node log
    one m below =
        let f = rank_there p place n.slot.node x.owner m below in
        let w = object_there b.objects (members place n.slot.node) f.at f.element alive.members f.there in
        let rank_is : rank_of n.roster f.at ≡ m = ap (λ q. rank_of q f.at) keeps.roster.is ∙ f.rank_is in
        subst (λ y. Given b.gatherings r k y ⊎ PartialWasSent n.last.stamp r k n.slot.node log) rank_is (of_object f.at w.0 w.1 (ap (λ e. (place_of p e).array) w.2 ∙ f.own))

    settle : (((m : ℕ) → m < length (node_members p place x n.slot.node) → Given b.gatherings r k m) ⊎ PartialWasSent n.last.stamp r k n.slot.node log) → PartialWasSent n.last.stamp r k n.slot.node log
    settle (inr h) = h
    settle (inl each) = first (of_object i o at own)
      where
        first : Given b.gatherings r k (rank_of n.roster i) ⊎ PartialWasSent n.last.stamp r k n.slot.node log → PartialWasSent n.last.stamp r k n.slot.node log
        first (inr h) = h
        first (inl h) =
            absurd
            (whole_not (IsGathering p place (lines_of script n.last.stamp) n.slot.node) (λ g. length (node_members p place x n.slot.node)) r k b.gatherings (rank_of n.roster i) alive.gatherings
            (λ g of q.
            let mine = into_gathers p place (lines_of script n.last.stamp) n.slot.node (reduction_id r) k x there g of q in
            let count = gives_length (contribution_of p (lines_of script n.last.stamp) k r) (node_members p place x n.slot.node) g.gathered.given mine.gives in
            (mine.missing, omega (arith, count)))
            (λ g of q m below. each m below) h)

-- ---- the nodes of a list stand at their numbers

number_behind : (i : ℕ) (xs ys : List ℕ) (j m : ℕ) → number_in i xs j ≡ Some m → number_in i (xs ++ ys) j ≡ Some m
number_behind i [] ys j m h = absurd (let q : None ≡ Some m = h in cc)
number_behind i (x ∷ xs) ys j m h = by (x == j) h (number_behind (suc i) xs ys j m)
  where
    by : (b : Bool) → cond b (Some i) (number_in (suc i) xs j) ≡ Some m → (number_in (suc i) xs j ≡ Some m → number_in (suc i) (xs ++ ys) j ≡ Some m) → cond b (Some i) (number_in (suc i) (xs ++ ys) j) ≡ Some m
    by true q rest = q
    by false q rest = rest q

number_last : (i : ℕ) (xs : List ℕ) (j : ℕ) → AllByRecursion (λ x. x < j) xs → number_in i (xs ++ j ∷ []) j ≡ Some (i + length xs)
number_last i [] j below = ap (λ b. cond b (Some i) None) (eq-eqb j j refl) ∙ ap Some (omega arith)
number_last i (x ∷ xs) j below = by (x == j) refl (number_last (suc i) xs j below.1 ∙ ap Some (omega arith))
  where
    by : (b : Bool) → (x == j) ≡ b → number_in (suc i) (xs ++ j ∷ []) j ≡ Some (i + suc (length xs)) → cond b (Some i) (number_in (suc i) (xs ++ j ∷ []) j) ≡ Some (i + suc (length xs))
    by true is rest = absurd (let same = eqb-true x j is in let less = below.0 in omega (arith, same, less))
    by false is rest = rest

less_nodes : (p : Plan) (place : List ℕ) (array n : ℕ) → AllByRecursion (λ x. x < n) (nodes_with p place array n)
less_nodes p place array zero = tt
less_nodes p place array (suc n) = by (shares p place array n) (all_to (λ x. x < n) (λ x. x < suc n) (nodes_with p place array n) (λ x h. omega (arith, h)) (less_nodes p place array n))
  where
    by : (b : Bool) → AllByRecursion (λ x. x < suc n) (nodes_with p place array n) → AllByRecursion (λ x. x < suc n) (nodes_with p place array n ++ cond b (n ∷ []) [])
    by true rest = all_behind (λ x. x < suc n) (nodes_with p place array n) (n ∷ []) rest (omega arith, tt)
    by false rest = all_behind (λ x. x < suc n) (nodes_with p place array n) [] rest tt

-- a place in a list and one more behind it
front_or_last : {A : Type 0} (xs : List A) (y x : A) (m : ℕ) → slice_get (xs ++ y ∷ []) m ≡ Some x → (slice_get xs m ≡ Some x) ⊎ ((m ≡ length xs) × (y ≡ x))
front_or_last [] y x zero h = inr (refl, same_Some y x h)
front_or_last [] y x (suc m) h = absurd (let q : None ≡ Some x = h in cc)
front_or_last (z ∷ xs) y x zero h = inl h
front_or_last (z ∷ xs) y x (suc m) h = by (front_or_last xs y x m h)
  where
    by : (slice_get xs m ≡ Some x) ⊎ ((m ≡ length xs) × (y ≡ x)) → (slice_get xs m ≡ Some x) ⊎ ((suc m ≡ suc (length xs)) × (y ≡ x))
    by (inl q) = inl q
    by (inr q) = inr (ap suc q.0, q.1)

node_number : (p : Plan) (place : List ℕ) (array n m j : ℕ) → slice_get (nodes_with p place array n) m ≡ Some j → number_in 0 (nodes_with p place array n) j ≡ Some m
node_number p place array zero m j h = absurd (let q : None ≡ Some j = h in cc)
node_number p place array (suc n) m j h = by (shares p place array n) h (node_number p place array n m j)
  where
    front : (ys : List ℕ) → number_in 0 (nodes_with p place array n) j ≡ Some m → number_in 0 (nodes_with p place array n ++ ys) j ≡ Some m
    front ys q = number_behind 0 (nodes_with p place array n) ys j m q

    by : (b : Bool) → slice_get (nodes_with p place array n ++ cond b (n ∷ []) []) m ≡ Some j → (slice_get (nodes_with p place array n) m ≡ Some j → number_in 0 (nodes_with p place array n) j ≡ Some m) →
        number_in 0 (nodes_with p place array n ++ cond b (n ∷ []) []) j ≡ Some m
    by false q rest = front [] (rest (ap (λ l. slice_get l m) (sym (append-nil (nodes_with p place array n))) ∙ q))
    by true q rest = which (front_or_last (nodes_with p place array n) n j m q)
      where
        which : (slice_get (nodes_with p place array n) m ≡ Some j) ⊎ ((m ≡ length (nodes_with p place array n)) × (n ≡ j)) → number_in 0 (nodes_with p place array n ++ n ∷ []) j ≡ Some m
        which (inl g) = front (n ∷ []) (rest g)
        which (inr g) =
            ap (λ x. number_in 0 (nodes_with p place array n ++ n ∷ []) x) (sym g.1) ∙ number_last 0 (nodes_with p place array n) n (less_nodes p place array n)
            ∙ ap Some (let at = g.0 in omega (arith, at))

there_at : {A : Type 0} (xs : List A) (m : ℕ) → m < length xs → (x : A) × (slice_get xs m ≡ Some x)
there_at [] m h = absurd (omega (arith, h))
there_at (x ∷ xs) zero h = (x, refl)
there_at (x ∷ xs) (suc m) h = there_at xs m (omega (arith, h))

same_self : (stamp : Rattle.letter_post.specs.declared.stamp.Stamp.Stamp) → same_stamp stamp stamp ≡ true
same_self stamp = both (stamp.replica == stamp.replica) (stamp.epoch == stamp.epoch) (stamp.lines.0 == stamp.lines.0) (eq-eqb stamp.replica stamp.replica refl) (eq-eqb stamp.epoch stamp.epoch refl) (eq-eqb stamp.lines.0 stamp.lines.0 refl)
  where
    both : (a b c : Bool) → a ≡ true → b ≡ true → c ≡ true → (a && b && c) ≡ true
    both true true c x y z = z
    both true false c x y z = y
    both false b c x y z = x

pub totals_are_sent : TotalsAreSent
totals_are_sent p script place r k i j log n b x keeps is there number came = settle (each_or Shown Sent_on (length nodes) one)
  where
    alive : Alive p script place n b
    alive = subst (λ c. IfSome c (Alive p script place n)) is keeps.body

    nodes : List ℕ
    nodes = sharers_of n.roster x.owner

    Sent_on : Type 0
    Sent_on = TotalsWereSent n.last.stamp r k (sharers_of n.roster x.owner) log

    Shown : ℕ → Type 0
    Shown m = Given b.totals r k m

    are : sharers_of n.roster x.owner ≡ nodes_with p place x.owner (node_count place)
    are = ap (λ q. sharers_of q x.owner) keeps.roster.is ∙ (sharers_are p place n.slot.node x.owner j i (ap (λ q. number_in 0 (sharers_of q x.owner) j) (sym keeps.roster.is) ∙ number)).0

    -- the share of each sharer is counted, or the totals were sent
    one : (m : ℕ) → m < length (sharers_of n.roster x.owner) → Given b.totals r k m ⊎ TotalsWereSent n.last.stamp r k (sharers_of n.roster x.owner) log
    one m below =
        let node = there_at (sharers_of n.roster x.owner) m below in
        let share : ShareCame p r k log n node.0 = got_at (ShareCame p r k log n) (sharers_of n.roster x.owner) m node.0 came node.1 in
        let did : BodyDid p log n b (Rattle.letter_post.specs.declared.letter.Letter.TheVariants.Partial n.last.stamp (reduction_id r) k node.0 share.value) =
        subst (λ o. IfSome o (λ (c : Body). BodyDid p log n c (Rattle.letter_post.specs.declared.letter.Letter.TheVariants.Partial n.last.stamp (reduction_id r) k node.0 share.value))) is share.did in
        let place_is : number_in 0 (sharers_of n.roster x.owner) node.0 ≡ Some m =
        ap (λ l. number_in 0 l node.0) are ∙ node_number p place x.owner (node_count place) m node.0 (ap (λ l. slice_get l m) (sym are) ∙ node.1) in
        did (same_self n.last.stamp) x m there place_is

    first : Given b.totals r k i ⊎ TotalsWereSent n.last.stamp r k (sharers_of n.roster x.owner) log → ((m : ℕ) → m < length (sharers_of n.roster x.owner) → Given b.totals r k m) → TotalsWereSent n.last.stamp r k (sharers_of n.roster x.owner) log
    first (inr h) each = h
    first (inl h) each =
        absurd
        (whole_not (IsSharing p place (lines_of script n.last.stamp) n.roster) (λ g. length (sharers_of n.roster x.owner)) r k b.totals i alive.totals
        (λ g of q.
        let mine = into_shares p place (lines_of script n.last.stamp) n.roster (reduction_id r) k x there g of q in
        let count = gives_length (share_of p place (lines_of script n.last.stamp) x r k) (sharers_of n.roster x.owner) g.gathered.given mine.gives in
        (mine.missing, omega (arith, count)))
        (λ g of q m below. each m below) h)

    settle : (((m : ℕ) → m < length (sharers_of n.roster x.owner) → Given b.totals r k m) ⊎ TotalsWereSent n.last.stamp r k (sharers_of n.roster x.owner) log) → TotalsWereSent n.last.stamp r k (sharers_of n.roster x.owner) log
    settle (inr h) = h
    settle (inl each) = first (one i (got_below (sharers_of n.roster x.owner) i j (numbered (sharers_of n.roster x.owner) j i number))) each
