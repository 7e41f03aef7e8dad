-- Claim after claim, the loops from the last DO to the first, so that what a claim asks of the loops inside is known.
-- Main statements: `made_length`, `all_claims`.
use mathlib.Core.Path.{◌≡◌, refl, ap, ◌∙◌}
use mathlib.Core.Bool.{true, ◌||◌}
use mathlib.Core.List.{List, [], ◌∷◌, ◌++◌}
use mathlib.Core.Logic.{inl, inr, ⊎_elim}
use Prim.Native.Nat.{ℕ, zero, suc, ◌+◌, ◌≤◌, ◌<◌}
use native.Mathlib.Omega.{arith}
use lib.Dec.{eqb}
use lib.ListN.{length}
use borrow.Author.Tests.{eq-eqb}
use Rattle.laws.specs.Members.{Among}
use Rattle.laws.proofs.Tests.{le_or, eq_or, and_intro, or_left, or_right}
use Rattle.laws.proofs.Members.{among_back}
use Rattle.laws.proofs.Implies.{implies_by}
use Rattle.paper_nests.specs.Nests.{Dep, Nest}
use Rattle.paper_nests.specs.Loops.{is_do}
use Rattle.paper_nests.proofs.Levels.{point_in}
use Rattle.paper_placements.specs.Placements.{loop_count}
use Rattle.plan_method.specs.Sweep.{Tables, IsTable}
use Rattle.plan_method.specs.Home.{loops_in, lines_in}
use Rattle.plan_method.proofs.World.{Lawful}
use Rattle.plan_method.proofs.Theorem as PT
use Rattle.plan_method.proofs.Instance.{world_of, AllFit}
use Rattle.argue_claims.specs.Arguments.{Claim, Known, claim}
use Rattle.argue_claims.specs.Arguments.{run, ended, known_of, begun, has_low, all_low, all_hold}
use Rattle.argue_key.specs.Laps.{Head, head, lead_in, claim_for, made}
use Rattle.argue_key.specs.Laps.{loop_heads, heads_from}
use Rattle.argue_key.proofs.Heads.{head_holds}
use Rattle.argue_key.proofs.Known.{Match, match_more, Kn, kn_more, has-low}
use Rattle.argue_key.proofs.HeadLists.{LoopKnown, low_in, HeadOf, head_of}
use Rattle.argue_key.proofs.Children.{Inner, kid_says}

-- a claim for each head
pub made_length : (ps : List ℕ) (ds : List Dep) (T : Tables) (cs : List Claim) (hs : List Head) →
    length (made ps ds T cs hs) ≡ length hs
unfolding made
made_length ps ds T cs [] = refl
made_length ps ds T cs (h ∷ hs) = ap suc (made_length ps ds T (cs ++ (claim_for ps ds T cs h ∷ [])) hs)

module _
    (n : Nest) (key : List ℕ) (laws : Lawful (world_of n.points n.deps) (lines_in n.points n.deps))
    (fit : AllFit n.points n.deps) (T : Tables)
    (table : IsTable (loops_in n.points) (lines_in n.points n.deps) T)
    (costs : (m : ℕ) → is_do n.points m ≡ true → loop_count n key m ≡ T.cost m) where
  abbrev ps : List ℕ
  ps = n.points

  abbrev ds : List Dep
  ds = n.deps

  -- one claim more
  module _ (d : ℕ) (h : Head) (of : HeadOf n key laws fit T table costs d h) (cs : List Claim) (ks : List Known)
      (match : Match cs ks)
      (inner : Inner n key laws fit T table costs d ks)
    where
      abbrev new : Claim
      new = claim_for ps ds T cs h

      abbrev newly : Known
      newly = known_of n key new (run n key new ks new.steps begun)

      one_holds : ended n key new (run n key new ks new.steps begun) ≡ true
      one_holds =
          head_holds n key laws fit T table costs h of.is-do of.busy of.kind (lead_in T cs) ks
          (λ p l at. kid_says n key laws fit T table costs h.loop of.is-do cs ks match
          (λ m u. inner m (omega (arith, u, of.loop_is))) p l at)

      one_match : Match (cs ++ (new ∷ [])) (ks ++ (newly ∷ []))
      one_match = match_more cs ks new newly match (refl, (refl, refl))

      one_known : Kn (ks ++ (newly ∷ [])) h.loop h.from h.upto
      one_known =
          record {
            known = newly;
            among = among_back newly ks (newly ∷ []) (inl refl);
            loop_is = refl;
            from_is = refl;
            upto_is = refl;
          }

  -- the claims of one loop, and then the rest
  through : (d : ℕ) (hs rest : List Head) (cs : List Claim) (ks : List Known) → Match cs ks →
      Inner n key laws fit T table costs d ks →
      ((h : Head) → Among h hs → HeadOf n key laws fit T table costs d h) →
      ((cs' : List Claim) (ks' : List Known) → Match cs' ks' → ((l a u : ℕ) → Kn ks l a u → Kn ks' l a u) →
      ((h : Head) → Among h hs → Kn ks' h.loop h.from h.upto) →
      all_hold n key ks' (made ps ds T cs' rest) ≡ true) →
      all_hold n key ks (made ps ds T cs (hs ++ rest)) ≡ true
  unfolding made
  through d [] rest cs ks match inner of go = go cs ks match (λ l a u k. k) (λ h m. absurd m)
  through d (h ∷ hs) rest cs ks match inner of go =
      and_intro (one_holds d h (of h (inl refl)) cs ks match inner)
      (through d hs rest (cs ++ (claim_for ps ds T cs h ∷ [])) _
      (one_match d h (of h (inl refl)) cs ks match inner)
      (λ l u j m. kn_more ks _ j.loop j.from j.upto (inner l u j m))
      (λ j m. of j (inr m))
      (λ cs' ks' match' more heads. go cs' ks' match'
      (λ l a u k. more l a u (kn_more ks _ l a u k))
      (λ j m. ⊎_elim
      (λ (z : j ≡ h). (
      let w : Kn ks' h.loop h.from h.upto =
      more h.loop h.from h.upto (one_known d h (of h (inl refl)) cs ks match inner) in
      rw z w))
      (λ (z : Among j hs). heads j z) m)))

  -- all loops
  all_loops : (k d : ℕ) (rest : List Head) → k + d ≡ length ps →
      ((cs : List Claim) (ks : List Known) → Match cs ks →
      ((l : ℕ) → d ≤ l → LoopKnown n key laws fit T table costs l ks) →
      all_hold n key ks (made ps ds T cs rest) ≡ true) →
      all_hold n key [] (made ps ds T [] (heads_from ps T k d rest)) ≡ true
  unfolding heads_from
  all_loops zero d rest e go = go [] [] refl
      (λ l u h m. absurd (none l h u (head_of n key laws fit T table costs l h m)))
    where
      none : (l : ℕ) (h : Head) → d ≤ l → HeadOf n key laws fit T table costs l h → ⊥
      none l h u of = omega (arith, point_in ps h.loop 0 of.is-do, of.loop_is, e, u)
  all_loops (suc k) d rest e go =
      all_loops k (suc d) (loop_heads ps T d ++ rest) (omega (arith, e))
      (λ cs ks match known. through d (loop_heads ps T d) rest cs ks match (λ l u. known l u)
      (λ h m. head_of n key laws fit T table costs d h m)
      (λ cs' ks' match' more heads. go cs' ks' match' (λ l u. ⊎_elim
      (λ (z : l ≡ d). (rw z heads))
      (λ (z : l ≡ d → ⊥). (λ h m. more h.loop h.from h.upto (known l (omega (arith, u, z)) h m)))
      (eq_or l d))))

  all-low : (ks : List Known) (m : ℕ) → ((l : ℕ) → LoopKnown n key laws fit T table costs l ks) →
      all_low n key ks m ≡ true
  all-low ks zero known = refl
  all-low ks (suc d) known = and_intro
      (implies_by (is_do ps d) (eqb (loop_count n key d) 0 || has_low ks d) here) (all-low ks d known)
    where
      low : (is-do : is_do ps d ≡ true) → 0 < T.cost d → has_low ks d ≡ true
      low is-do p = ⊎_elim
          (λ (z : T.left d (suc d) ≤ 0). absurd (omega (
            arith,
            p,
            ((PT.claim (world_of ps ds) (lines_in ps ds) laws T table d is-do).empty (omega (arith, z)) d
                (record { is-do = is-do; from = omega arith; below = laws.of-loops.long d is-do })).free,
          )))
          (λ (z : 0 < T.left d (suc d)). (
          let k : Kn ks d 0 0 = known d (head d 0 0) (low_in n key laws fit T table costs d is-do z p) in
          has-low ks d k.known k.among k.loop_is k.from_is k.upto_is))
          (le_or (T.left d (suc d)) 0)

      here : is_do ps d ≡ true → (eqb (loop_count n key d) 0 || has_low ks d) ≡ true
      here h = ⊎_elim
          (λ (z : T.cost d ≤ 0). or_left _ (eq-eqb (loop_count n key d) 0 (costs d h ∙ omega (arith, z))))
          (λ (z : 0 < T.cost d). or_right (eqb (loop_count n key d) 0) (low h z))
          (le_or (T.cost d) 0)

  pub all_claims : all_hold n key [] (made ps ds T [] (heads_from ps T (length ps) 0 [])) ≡ true
  unfolding made
  all_claims = all_loops (length ps) 0 [] (omega arith)
      (λ cs ks match known. all-low ks (length ps) (λ l. known l (omega arith)))
