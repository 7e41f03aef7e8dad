-- Arguments: for one paper, why no correct placement is better than a given one, the key. A claim speaks of one loop d
-- and of every correct placement x that has the key's counts in all loops inside d. Its steps name sets of gaps each of
-- which x has a gap in: c sets, no gap in more than m of them, need c / m barriers at least. From these sets the gaps
-- of loops inside d are struck by what earlier claims say. Nothing of the planner stands here; an argument is checked
-- by computing.
-- Main definitions: `Step`, `Claim`, `is_out`, `step`, `ended`, `holds`.
use Rattle.std.specs.Prelude.{Bool, true, false, ◌&&◌, ◌||◌, not, List, [], ◌∷◌, ◌++◌, ℕ, zero, suc, ◌+◌, eqb, ltb, leb, length}
use Rattle.laws.specs.Choice.{pick, when, between, is_in}
use Rattle.paper_nests.specs.Nests.{Dep, Nest, dep}
use Rattle.paper_nests.specs.Loops.{is_do, end_of, owner_of, is_around, in_loop}
use Rattle.paper_nests.specs.Gaps.{has_gap}
use Rattle.paper_placements.specs.Placements.{is_correct, loop_count}

-- ---- claims

-- a step names a set: 0 the supposed gaps from `from` on, 1 those up to `upto`, k + 2 the gaps of dependence k; via 0
-- it counts, via m + 1 it leads to what claim m says
pub record Step : Type 0 where
  pub set : ℕ
  pub via : ℕ

-- from = upto = 0, low: x has at least the key's count at the loop. Else more: if x has a gap of the loop's range from
-- `from` on (where from > 0) and one up to `upto` (where upto > 0), it has more own gaps of the loop than the key.
pub record Claim : Type 0 where
  pub loop : ℕ
  pub from : ℕ
  pub upto : ℕ
  pub steps : List Step

abbrev pub st : ℕ → ℕ → Step
st s v = record { set = s; via = v }

abbrev pub claim : ℕ → ℕ → ℕ → List Step → Claim
claim d a b ss = record { loop = d; from = a; upto = b; steps = ss }

abbrev pub is_low : Claim → Bool
is_low k = eqb k.from 0 && eqb k.upto 0

-- a claim that holds, and the places where the loop's own gaps stand if x has just the key's count there
pub record Known : Type 0 where
  pub loop : ℕ
  pub from : ℕ
  pub upto : ℕ
  pub places : ℕ → Bool

abbrev nothing : Known
nothing = record { loop = 0; from = 0; upto = 0; places = λ g. true }

abbrev pub known_at : List Known → ℕ → Known
known_at [] m = nothing
known_at (k ∷ ks) zero = k
known_at (k ∷ ks) (suc m) = known_at ks m

abbrev pub dep_at : List Dep → ℕ → Dep
dep_at [] m = dep 0 0 0 0
dep_at (e ∷ es) zero = e
dep_at (e ∷ es) (suc m) = dep_at es m

-- ---- the count of a claim's steps

-- x has no gap of the loop's range up to `upto`
pub record Fact : Type 0 where
  pub loop : ℕ
  pub upto : ℕ

-- while the steps go on: all were fine, how many sets were counted, how often each gap was named, and facts, which
-- hold if x's own gaps were named no more often than sets were counted
pub record Count : Type 0 where
  pub fine : Bool
  pub c : ℕ
  pub times : ℕ → ℕ
  pub facts : List Fact

abbrev pub begun : Count
begun = record { fine = true; c = 0; times = λ g. 0; facts = [] }

-- each gap of a set named once more
abbrev pub named : (ℕ → Bool) → (ℕ → ℕ) → ℕ → ℕ
named s t g = when (s g) 1 + t g

-- a step that counts makes c grow and forgets the facts; one that leads adds the fact that its claim has none up to
abbrev pub counted : ℕ → ℕ → ℕ
counted zero c = suc c
counted (suc m) c = c

abbrev pub facts_after : List Known → ℕ → List Fact → List Fact
facts_after ks zero fs = []
facts_after ks (suc m) fs = record { loop = (known_at ks m).loop; upto = (known_at ks m).upto } ∷ fs

-- every number from 1 to n passes; the greatest value at one of them, and 1 at least
abbrev pub every : (ℕ → Bool) → ℕ → Bool
every f zero = true
every f (suc n) = f (suc n) && every f n

abbrev pub greatest : (ℕ → ℕ) → ℕ → ℕ
greatest f zero = 1
greatest f (suc n) = pick (leb (greatest f n) (f (suc n))) (f (suc n)) (greatest f n)

-- c times m
unfoldable pub lots : ℕ → ℕ → ℕ
lots m zero = 0
lots m (suc c) = m + lots m c

-- a low claim of the loop is among those known
abbrev pub has_low : List Known → ℕ → Bool
has_low [] d = false
has_low (k ∷ ks) d = (eqb k.loop d && (eqb k.from 0 && eqb k.upto 0)) || has_low ks d

module _ (n : Nest) (key : List ℕ) where
  -- ---- what is out

  -- 3: a fact says so
  abbrev pub fact_out : List Fact → ℕ → Bool
  fact_out [] g = false
  fact_out (f ∷ fs) g = (is_around n.points g f.loop && leb g f.upto) || fact_out fs g

  -- what a claim says of a gap of its loop's range, where x has the key's counts at the loop and inside: none up to,
  -- none from on, or the loop's own gaps stand elsewhere
  abbrev pub says : Known → ℕ → Bool
  says k g =
      (eqb k.from 0 && leb g k.upto) ||
      ((eqb k.upto 0 && (ltb 0 k.from && leb k.from g)) ||
      (eqb (owner_of n.points g) k.loop && not (k.places g)))

  -- 2 and 4: a claim of a loop inside d says so
  abbrev pub known_out : ℕ → List Known → ℕ → Bool
  known_out d [] g = false
  known_out d (k ∷ ks) g =
      (in_loop n.points d k.loop && (is_around n.points g k.loop && says k g)) || known_out d ks g

  -- a gap of d's range that x does not have: 1, it is barred; 2, it belongs to a loop inside d where the key has none
  abbrev pub is_out : ℕ → List Known → List Fact → ℕ → Bool
  is_out d ks fs g =
      is_in g n.barred ||
      ((not (eqb (owner_of n.points g) d) && eqb (loop_count n key (owner_of n.points g)) 0) ||
      (fact_out fs g || known_out d ks g))

  -- ---- steps

  abbrev pub in_set : Claim → ℕ → ℕ → Bool
  in_set k zero g = ltb 0 k.from && between k.from g (end_of n.points k.loop)
  in_set k (suc zero) g = between (suc k.loop) g k.upto
  in_set k (suc (suc m)) g = has_gap n.points (dep_at n.deps m) g

  -- the set is there: supposed, or a dependence's
  abbrev pub is_set : Claim → ℕ → Bool
  is_set k zero = ltb 0 k.from
  is_set k (suc zero) = ltb 0 k.upto
  is_set k (suc (suc m)) = ltb m (length n.deps)

  -- the claim led to is an earlier one of a loop inside d: "if one from `from` on, none up to `upto`"
  abbrev pub is_led : ℕ → List Known → ℕ → Bool
  is_led d ks zero = true
  is_led d ks (suc m) =
      ltb m (length ks) && (in_loop n.points d (known_at ks m).loop && (ltb 0 (known_at ks m).from &&
      ltb 0 (known_at ks m).upto))

  abbrev pub leads : List Known → ℕ → ℕ → Bool
  leads ks zero g = false
  leads ks (suc m) g = is_around n.points g (known_at ks m).loop && leb (known_at ks m).from g

  -- what is left of the set
  abbrev pub is_left : Claim → List Known → List Fact → Step → ℕ → Bool
  is_left k ks fs s g = in_set k s.set g && (not (is_out k.loop ks fs g) && not (leads ks s.via g))

  -- the set lies in the loop's range, and what is left of it are own gaps of the loop
  abbrev pub step : Claim → List Known → Step → Count → Count
  step k ks s x =
      record {
        fine =
            x.fine && (is_set k s.set && (is_led k.loop ks s.via &&
            every (λ g. (not (in_set k s.set g) || is_around n.points g k.loop) &&
            (not (is_left k ks x.facts s g) || eqb (owner_of n.points g) k.loop)) (length n.points)));
        c = counted s.via x.c;
        times = named (is_left k ks x.facts s) x.times;
        facts = facts_after ks s.via x.facts;
      }

  abbrev pub run : Claim → List Known → List Step → Count → Count
  run k ks [] x = x
  run k ks (s ∷ ss) x = run k ks ss (step k ks s x)

  -- ---- the end of a claim

  -- the most times that a gap was named, and that for each of the key's own gaps of the loop
  abbrev pub most : Count → ℕ
  most x = greatest x.times (length n.points)

  abbrev pub key_lots : Claim → Count → ℕ
  key_lots k x = lots (most x) (loop_count n key k.loop)

  -- low: c > (count - 1) · most; more: c > count · most
  abbrev pub ended : Claim → Count → Bool
  ended k x =
      x.fine && (is_do n.points k.loop && ltb (key_lots k x) (x.c + when (is_low k) (most x)))

  -- where a low claim is exact, c = count · most, x has own gaps only where they were named the most times
  abbrev pub known_of : Claim → Count → Known
  known_of k x =
      record {
        loop = k.loop;
        from = k.from;
        upto = k.upto;
        places = λ g. not (is_low k && eqb x.c (key_lots k x)) || eqb (x.times g) (most x);
      }

  -- ---- arguments

  -- every loop with a count has its low claim
  abbrev pub all_low : List Known → ℕ → Bool
  all_low ks zero = true
  all_low ks (suc d) = (not (is_do n.points d) || (eqb (loop_count n key d) 0 || has_low ks d)) && all_low ks d

  abbrev pub all_hold : List Known → List Claim → Bool
  all_hold ks [] = all_low ks (length n.points)
  all_hold ks (k ∷ cs) =
      ended k (run k ks k.steps begun) && all_hold (ks ++ (known_of k (run k ks k.steps begun) ∷ [])) cs

  -- the key is correct, and every claim holds in turn
  abbrev pub holds : List Claim → Bool
  holds cs = is_correct n key && all_hold [] cs
