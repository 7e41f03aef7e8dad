-- The conditions of `holds`, each with a number, and rules that ask only some of them: a rule says of each condition
-- whether it is asked. The rule that asks all of them is `holds` (`full_is`); Needed has, for each condition, a paper
-- that the rule without it gets wrong.
-- Main definitions: `Rule`, `full`, `without`, `ruled`. Main statement: `full_is`.
use mathlib.Core.Path.{◌≡◌, refl, ap, ap₂, ◌∙◌, fun_ext}
use mathlib.Core.Bool.{Bool, true, false, ◌&&◌, ◌||◌, not}
use mathlib.Core.List.{List, [], ◌∷◌, ◌++◌}
use Prim.Native.Nat.{ℕ, zero, suc, ◌+◌}
use lib.Dec.{eqb, ltb, leb}
use lib.ListN.{length}
use Rattle.laws.specs.Choice.{pick, when, is_in}
use Rattle.paper_nests.specs.Nests.{Nest}
use Rattle.paper_nests.specs.Loops.{is_do, owner_of, is_around, in_loop}
use Rattle.paper_placements.specs.Placements.{is_correct, loop_count}
use Rattle.argue_claims.specs.Arguments.{Step, Claim, Known, Fact, Count, every, greatest, known_at, named, lots}
use Rattle.argue_claims.specs.Arguments.{begun, facts_after, is_low, fact_out, known_out, is_out, in_set, is_set, is_led}
use Rattle.argue_claims.specs.Arguments.{step, run, ended, all_low, all_hold, holds}

-- of an argument: the key is correct; every loop with a count has its low claim
abbrev pub CORRECT : ℕ
CORRECT = 0

abbrev pub ALL-LOW : ℕ
ALL-LOW = 1

-- of a step: the set is there; it lies in the loop's range; what is left of it are own gaps of the loop
abbrev pub THERE : ℕ
THERE = 2

abbrev pub IN-RANGE : ℕ
IN-RANGE = 3

abbrev pub OWN : ℕ
OWN = 4

-- a step that counts forgets the facts; one that leads does not count; it leads from `from` on, and in its loop
abbrev pub FORGETS : ℕ
FORGETS = 5

abbrev pub STAYS : ℕ
STAYS = 6

abbrev pub LEADS-FROM : ℕ
LEADS-FROM = 7

abbrev pub LEADS-IN : ℕ
LEADS-IN = 8

-- of an end: low, c is not count · most - most, but more; more, c is not count · most, but more; most is the greatest
-- number of times, not 1
abbrev pub LOW-END : ℕ
LOW-END = 9

abbrev pub MORE-END : ℕ
MORE-END = 10

abbrev pub MOST : ℕ
MOST = 11

-- out, 2: the key's count at the loop is 0; the low claim is exact; it speaks of its loop's own gaps
abbrev pub EMPTY : ℕ
EMPTY = 12

abbrev pub EXACT : ℕ
EXACT = 13

abbrev pub STANDS : ℕ
STANDS = 14

-- out, 3: the gap lies in the fact's loop; it is no later than the fact says
abbrev pub FACT-IN : ℕ
FACT-IN = 15

abbrev pub FACT-UPTO : ℕ
FACT-UPTO = 16

-- out, 4: the gap lies in the claim's loop; a claim "none up to" has no `from`; a claim "none from on" has no `upto`
abbrev pub CLAIM-IN : ℕ
CLAIM-IN = 17

abbrev pub NO-FROM : ℕ
NO-FROM = 18

abbrev pub NO-UPTO : ℕ
NO-UPTO = 19

abbrev pub Rule : Type 0
Rule = ℕ → Bool

abbrev pub full : Rule
full i = true

abbrev pub without : ℕ → Rule
without c i = not (eqb i c)

-- a condition that is not asked is as if it held
abbrev asked : Rule → ℕ → Bool → Bool
asked r c t = not (r c) || t

module _ (r : Rule) (n : Nest) (key : List ℕ) where
  abbrev fact_ruled : List Fact → ℕ → Bool
  fact_ruled [] g = false
  fact_ruled (f ∷ fs) g =
      (asked r FACT-IN (is_around n.points g f.loop) && asked r FACT-UPTO (leb g f.upto)) || fact_ruled fs g

  abbrev says_ruled : Known → ℕ → Bool
  says_ruled k g =
      (asked r NO-FROM (eqb k.from 0) && leb g k.upto) ||
      ((asked r NO-UPTO (eqb k.upto 0) && (ltb 0 k.from && leb k.from g)) ||
      (asked r STANDS (eqb (owner_of n.points g) k.loop) && not (k.places g)))

  abbrev known_ruled : ℕ → List Known → ℕ → Bool
  known_ruled d [] g = false
  known_ruled d (k ∷ ks) g =
      (in_loop n.points d k.loop && (asked r CLAIM-IN (is_around n.points g k.loop) && says_ruled k g)) ||
      known_ruled d ks g

  abbrev out_ruled : ℕ → List Known → List Fact → ℕ → Bool
  out_ruled d ks fs g =
      is_in g n.barred ||
      ((not (eqb (owner_of n.points g) d) && asked r EMPTY (eqb (loop_count n key (owner_of n.points g)) 0)) ||
      (fact_ruled fs g || known_ruled d ks g))

  abbrev leads_ruled : List Known → ℕ → ℕ → Bool
  leads_ruled ks zero g = false
  leads_ruled ks (suc m) g =
      asked r LEADS-IN (is_around n.points g (known_at ks m).loop) && asked r LEADS-FROM (leb (known_at ks m).from g)

  abbrev counted_ruled : ℕ → ℕ → ℕ
  counted_ruled zero c = suc c
  counted_ruled (suc m) c = pick (r STAYS) c (suc c)

  abbrev facts_ruled : List Known → ℕ → List Fact → List Fact
  facts_ruled ks zero fs = pick (r FORGETS) [] fs
  facts_ruled ks (suc m) fs = facts_after ks (suc m) fs

  -- a step, where the gaps of `out` are out and those of `led` led to
  abbrev step_over : (ℕ → Bool) → (ℕ → Bool) → Claim → List Known → Step → Count → Count
  step_over out led k ks s x =
      record {
        fine =
            x.fine && (asked r THERE (is_set n key k s.set) && (is_led n key k.loop ks s.via &&
            every (λ g. asked r IN-RANGE (not (in_set n key k s.set g) || is_around n.points g k.loop) &&
            asked r OWN (not (in_set n key k s.set g && (not (out g) && not (led g))) ||
            eqb (owner_of n.points g) k.loop)) (length n.points)));
        c = counted_ruled s.via x.c;
        times = named (λ g. in_set n key k s.set g && (not (out g) && not (led g))) x.times;
        facts = facts_ruled ks s.via x.facts;
      }

  abbrev step_ruled : Claim → List Known → Step → Count → Count
  step_ruled k ks s x = step_over (out_ruled k.loop ks x.facts) (leads_ruled ks s.via) k ks s x

  abbrev run_ruled : Claim → List Known → List Step → Count → Count
  run_ruled k ks [] x = x
  run_ruled k ks (s ∷ ss) x = run_ruled k ks ss (step_ruled k ks s x)

  abbrev most_ruled : Count → ℕ
  most_ruled x = pick (r MOST) (greatest x.times (length n.points)) 1

  -- more than, or as much where that is not asked
  abbrev above : ℕ → ℕ → ℕ → Bool
  above c a b = pick (r c) (ltb a b) (leb a b)

  abbrev ended_ruled : Claim → Count → Bool
  ended_ruled k x =
      x.fine && (is_do n.points k.loop && pick (is_low k)
      (above LOW-END (lots (most_ruled x) (loop_count n key k.loop)) (x.c + when (is_low k) (most_ruled x)))
      (above MORE-END (lots (most_ruled x) (loop_count n key k.loop)) (x.c + when (is_low k) (most_ruled x))))

  abbrev known_of_ruled : Claim → Count → Known
  known_of_ruled k x =
      record {
        loop = k.loop;
        from = k.from;
        upto = k.upto;
        places = λ g. not (is_low k && asked r EXACT (eqb x.c (lots (most_ruled x) (loop_count n key k.loop)))) ||
            eqb (x.times g) (most_ruled x);
      }

  abbrev all_ruled : List Known → List Claim → Bool
  all_ruled ks [] = asked r ALL-LOW (all_low n key ks (length n.points))
  all_ruled ks (k ∷ cs) =
      ended_ruled k (run_ruled k ks k.steps begun) &&
      all_ruled (ks ++ (known_of_ruled k (run_ruled k ks k.steps begun) ∷ [])) cs

  -- the argument is accepted by the rule
  abbrev pub ruled : List Claim → Bool
  ruled cs = asked r CORRECT (is_correct n key) && all_ruled [] cs

-- ---- the rule that asks all

module _ (n : Nest) (key : List ℕ) where
  fact_full : (fs : List Fact) (g : ℕ) → fact_ruled full n key fs g ≡ fact_out n key fs g
  fact_full [] g = refl
  fact_full (f ∷ fs) g =
      ap (λ (b : Bool). (is_around n.points g f.loop && leb g f.upto) || b) (fact_full fs g)

  known_full : (d : ℕ) (ks : List Known) (g : ℕ) → known_ruled full n key d ks g ≡ known_out n key d ks g
  known_full d [] g = refl
  known_full d (k ∷ ks) g =
      ap (λ (b : Bool). (in_loop n.points d k.loop && (is_around n.points g k.loop &&
      says_ruled full n key k g)) || b) (known_full d ks g)

  out_full : (d : ℕ) (ks : List Known) (fs : List Fact) (g : ℕ) → out_ruled full n key d ks fs g ≡ is_out n key d ks fs g
  out_full d ks fs g =
      ap₂ (λ (a b : Bool). is_in g n.barred || ((not (eqb (owner_of n.points g) d) &&
      eqb (loop_count n key (owner_of n.points g)) 0) || (a || b))) (fact_full fs g) (known_full d ks g)

  step_full : (k : Claim) (ks : List Known) (set via : ℕ) (x : Count) →
      step_ruled full n key k ks record { set = set; via = via } x ≡ step n key k ks record { set = set; via = via } x
  step_full k ks set zero x =
      ap (λ (out : ℕ → Bool). step_over full n key out (λ g. false) k ks record { set = set; via = 0 } x)
      (fun_ext (out_full k.loop ks x.facts))
  step_full k ks set (suc m) x =
      ap (λ (out : ℕ → Bool).
      step_over full n key out (leads_ruled full n key ks (suc m)) k ks record { set = set; via = suc m } x)
      (fun_ext (out_full k.loop ks x.facts))

  run_full : (k : Claim) (ks : List Known) (ss : List Step) (x : Count) →
      run_ruled full n key k ks ss x ≡ run n key k ks ss x
  run_full k ks [] x = refl
  run_full k ks (s ∷ ss) x =
      ap (run_ruled full n key k ks ss) (step_full k ks s.set s.via x) ∙ run_full k ks ss (step n key k ks s x)

  same_both : {A : Type 0} (b : Bool) (a : A) → pick b a a ≡ a
  same_both true a = refl
  same_both false a = refl

  ended_full : (k : Claim) (x : Count) → ended_ruled full n key k x ≡ ended n key k x
  ended_full k x = ap (λ (b : Bool). x.fine && (is_do n.points k.loop && b)) (same_both (is_low k) _)

  all_full : (cs : List Claim) (ks : List Known) → all_ruled full n key ks cs ≡ all_hold n key ks cs
  all_full [] ks = refl
  all_full (k ∷ cs) ks =
      ap (λ (x : Count). ended_ruled full n key k x && all_ruled full n key (ks ++ (known_of_ruled full n key k x ∷ [])) cs)
      (run_full k ks k.steps begun) ∙
      ap₂ (λ (a b : Bool). a && b) (ended_full k (run n key k ks k.steps begun)) (all_full cs _)

  pub full_is : (cs : List Claim) → ruled full n key cs ≡ holds n key cs
  full_is cs = ap (λ (b : Bool). is_correct n key && b) (all_full cs [])
