-- The call of the textbook method keeps its page: of rising tries with the smallest result the first is kept.
-- Main statements: `best_first`, `method`, `textbook_kept`.
use mathlib.Core.Path.{◌≡◌, refl, sym, ◌∙◌, ap, subst}
use mathlib.Core.Bool.{Bool, true, false, not}
use mathlib.Core.List.{List, [], ◌∷◌}
use mathlib.Core.Logic.{◌⊎◌, inl, inr, ⊎_elim}
use Prim.Native.Nat.{ℕ, suc, ◌-◌, ◌≤◌, ◌<◌}
use native.Mathlib.Omega.{arith}
use lib.Dec.{ltb}
use lib.ListN.{length}
use borrow.Author.Tests.{eq-eqb, ltb-true, ltb-false}
use Rattle.laws.specs.Choice.{pick, when, first_of, is_in}
use Rattle.laws.specs.Members.{Among}
use Rattle.laws.proofs.Members.{in_here, in_later, in_cons}
use Rattle.laws.proofs.Tests.{never, never_both, false_by}
use Rattle.paper_nests.specs.declared.Dependence as DE
use Rattle.paper_nests.specs.Nests.{Nest}
use Rattle.paper_nests.specs.Ring.{one_loop}
use Rattle.paper_nests.specs.Valid.{is_valid}
use Rattle.paper_nests.specs.Stored.{dep_in, nest_in}
use Rattle.paper_nests.proofs.Deps.{valid_is}
use Rattle.paper_placements.specs.Placements.{are_gaps_from, is_free, is_correct}
use Rattle.paper_placements.specs.Words.{gaps_of, gaps_in}
use Rattle.paper_placements.proofs.Cuts.{correct_gaps}
use Rattle.paper_placements.proofs.Rising.{rises, rising_wider}
use Rattle.paper_placements.proofs.Words.{gaps_of_rising}
use Rattle.paper_barred.specs.Reduced.{is_blocked}
use Rattle.paper_barred.proofs.ReducedNest.{none_shut}
use Rattle.plan_theorem.specs.KeyOf.{key_of}
use Rattle.desk.specs.declared.Desk as DD
use Rattle.desk.specs.declared.Chosen as DC
use Rattle.desk.specs.Desks.{desk_in, IsMade}
use Rattle.call_textbook.specs.Says.{textbook_fault, textbook_on, TextbookSays}
use Rattle.call_textbook.specs.Tries.{try_at, best_from, best_of, textbook_of}
use Rattle.call_textbook.proofs.Tried.{is_tried, tried_is}
use Rattle.call_textbook.proofs.Count.{textbook_correct, textbook_count}
use Rattle.pages.specs.Demands.{Paper}
use Rattle.pages.proofs.Placements.{mapped, nest_of, nest_of_paper, is-correct}
use Rattle.pages.proofs.Keys.{shaped, fit}
use Rattle.pages.proofs.Desks.{reached_made}
use Rattle.pages.proofs.Kept.{paper_on, flags_of, key_same, set_here}
use Rattle.pages_requests.specs.Textbook.{Try, Textbook, Number, Given, TextbookMethod}
use Rattle.pages_requests.proofs.Papers.{page_valid}
use Rattle.pages_requests.proofs.Blocking.{blocked_is, is-blocked, one_is, is_one}
use Rattle.pages_requests.proofs.Tries.{tried, try_made, try_is}

-- ---- the smallest, the first of equals

-- g's result, no greater than any of these, and smaller than those before it
record Kept (result : ℕ → List ℕ) (gs : List ℕ) (g : ℕ) (out : List ℕ) : Type 0 where
  there : is_in g gs ≡ true
  is : out ≡ result g
  least : (h : ℕ) → is_in h gs ≡ true → length out ≤ length (result h)
  first : (h : ℕ) → is_in h gs ≡ true → h < g → length out < length (result h)

module _ (result : ℕ → List ℕ) (n : ℕ) where
  best_first
      : (gs best : List ℕ) (low b : ℕ) → are_gaps_from low n gs ≡ true → b ≤ low → best ≡ result b
      → (g : ℕ) × Kept result (b ∷ gs) g (best_from result best gs)
  unfolding best_from
  best_first [] best low b r l e = (
    b,
    record {
      there = in_here b [];
      is = e;
      least = λ h i. only h (in_cons h b [] i);
      first = λ h i k.
          none h k (in_cons h b [] i);
    },
  )
    where
      only : (h : ℕ) → (h ≡ b) ⊎ (is_in h [] ≡ true) → length best ≤ length (result h)
      only h (inl z) = let q : length best ≡ length (result h) = ap length (e ∙ ap result (sym z)) in omega arith
      only h (inr z) = never z

      none : (h : ℕ) → h < b → (h ≡ b) ⊎ (is_in h [] ≡ true) → length best < length (result h)
      none h k (inl z) = absurd (omega arith)
      none h k (inr z) = never z
  best_first (x ∷ xs) best low b r l e =
      let z = rises low n x xs r in
      go (ltb (length (result x)) (length best)) refl
      (best_first xs (result x) x x z.rest (omega arith) refl)
      (best_first xs best x b z.rest (omega (arith, z.above)) e)
    where
      go
          : (t : Bool) → ltb (length (result x)) (length best) ≡ t
          → (g : ℕ) × Kept result (x ∷ xs) g (best_from result (result x) xs)
          → (g : ℕ) × Kept result (b ∷ xs) g (best_from result best xs)
          → (g : ℕ) × Kept result (b ∷ (x ∷ xs)) g (best_from result (pick t (result x) best) xs)
      go true q (g, k) other =
          let s = ltb-true (length (result x)) (length best) q in
          let out = best_from result (result x) xs in
          let u = k.least x (in_here x xs) in (
            g,
            record {
              there = in_later g b (x ∷ xs) k.there;
              is = k.is;
              least =
                  λ h i.
                  ⊎_elim
                  (λ (y : h ≡ b). let v : length best ≡ length (result h) = ap length (e ∙
                  ap result (sym y)) in omega (arith, s, u, v))
                  (λ (y : is_in h (x ∷ xs) ≡ true). k.least h y)
                  (in_cons h b (x ∷ xs) i);
              first =
                  λ h i j.
                  ⊎_elim
                  (λ (y : h ≡ b). let v : length best ≡ length (result h) = ap length (e ∙
                  ap result (sym y)) in omega (arith, s, u, v))
                  (λ (y : is_in h (x ∷ xs) ≡ true). k.first h y j)
                  (in_cons h b (x ∷ xs) i);
            },
          )
      go false q other (g, k) =
          let s = ltb-false (length (result x)) (length best) q in
          let v : length best ≡ length (result b) = ap length e in
          let u = k.least b (in_here b xs) in (
            g,
            record {
              there =
                  ⊎_elim
                  (λ (y : g ≡ b). subst (λ (i : ℕ). is_in i (b ∷ (x ∷ xs)) ≡ true) (sym y) (in_here b (x ∷ xs)))
                  (λ (y : is_in g xs ≡ true). in_later g b (x ∷ xs) (in_later g x xs y))
                  (in_cons g b xs k.there);
              is = k.is;
              least =
                  λ h i.
                  ⊎_elim
                  (λ (y : h ≡ b). k.least h (subst (λ (j : ℕ). is_in j (b ∷ xs) ≡ true) (sym y) (in_here b xs)))
                  (λ (y : is_in h (x ∷ xs) ≡ true).
                  ⊎_elim
                  (λ (w : h ≡ x). let a : length (result h) ≡ length (result x) = ap (λ (j : ℕ).
                  length (result j)) w in omega (arith, s, u, v, a))
                  (λ (w : is_in h xs ≡ true). k.least h (in_later h b xs w))
                  (in_cons h x xs y))
                  (in_cons h b (x ∷ xs) i);
              first =
                  λ h i j.
                  ⊎_elim
                  (λ (y : h ≡ b). k.first h (subst (λ (j : ℕ). is_in j (b ∷ xs) ≡ true) (sym y) (in_here b xs)) j)
                  (λ (y : is_in h (x ∷ xs) ≡ true).
                  ⊎_elim
                  (λ (w : h ≡ x). before h w j)
                  (λ (w : is_in h xs ≡ true). k.first h (in_later h b xs w) j)
                  (in_cons h x xs y))
                  (in_cons h b (x ∷ xs) i);
            },
          )
        where
          before : (h : ℕ) → h ≡ x → h < g → length (best_from result best xs) < length (result h)
          before h w j =
              let z = rises low n x xs r in
              let u = k.first b (in_here b xs) (omega (arith, l, z.above, w, j)) in
              let v : length best ≡ length (result b) = ap length e in
              let a : length (result h) ≡ length (result x) = ap (λ (i : ℕ). length (result i)) w in
              omega (arith, u, v, a, ltb-false (length (result x)) (length best) q)

  best_of_first
      : (gs : List ℕ) (low h : ℕ) → are_gaps_from low n gs ≡ true → is_in h gs ≡ true
      → (g : ℕ) × Kept result gs g (best_of result gs)
  best_of_first [] low h r i = never i
  best_of_first (x ∷ xs) low h r i = best_first xs (result x) x x (rises low n x xs r).rest (omega arith) refl

-- ---- the method

module _ (p : Paper) (fl : List ℕ) (valid : is_valid (nest_of p fl) ≡ true)
    (unshut : is_blocked (nest_of p fl) ≡ false) where
  abbrev tries : List ℕ
  tries = gaps_of (is_free p.barred) (length p.points - 1) 1

  tries_rise : are_gaps_from 0 (suc (length p.points - 1)) tries ≡ true
  tries_rise =
      gaps_of_rising (is_free p.barred) (suc (length p.points - 1)) (length p.points - 1) 1 0
      (λ i a b c. (omega arith, omega arith))

  method : Textbook p (textbook_of p.points p.barred (mapped p.deps))
  method = go p.deps refl
    where
      go : (xs : List DE.Dependence) → p.deps ≡ xs → Textbook p (textbook_of p.points p.barred (mapped xs))
      go [] e = Textbook.none e refl
      go (x ∷ xs) e =
          let o =
          none_shut p.points p.barred (mapped p.deps) unshut (dep_in x)
          (subst (λ (l : List DE.Dependence). Among (dep_in x) (mapped l)) (sym e) (inl refl)) in
          let i =
          is_tried p.barred (length p.points - 1) o.gap
          (record { first = o.first; inside = o.last; free = o.free }) in
          let k =
          best_of_first (try_at p.points p.barred (mapped p.deps)) (suc (length p.points - 1)) tries 0
          o.gap tries_rise i in
          subst (λ (l : List DE.Dependence). Textbook p (best_of (try_at p.points p.barred (mapped l)) tries)) e
          (Textbook.best k.0 (λ z. some (sym z ∙ e))
          (subst (λ (l : List ℕ). Try p k.0 l) (sym k.1.is)
          (try_made p fl valid k.0 (tried_is p.barred (length p.points - 1) k.0 k.1.there)))
          (λ h hs t.
          let w = is_tried p.barred (length p.points - 1) h (tried p fl valid h t.gap) in
          let q : length hs ≡ length (try_at p.points p.barred (mapped p.deps) h) =
          ap length (try_is p fl valid h hs t) in
          (omega (arith, q, k.1.least h w), λ j. omega (arith, q, k.1.first h w j))))
        where
          some : [] ≡ (x ∷ xs) → ⊥
          some z = let y : ◌≡◌ {A = ℕ} 0 1 = cc z in omega arith

-- ---- the call

module _ (d : DD.Desk) (m : IsMade d) (r : DC.Chosen) (h : TextbookSays d r) where
  abbrev page : Paper
  page = paper_on d

  abbrev n : Nest
  n = nest_of page (flags_of d)

  nest_same : nest_in d.nest ≡ n
  nest_same = nest_of_paper d.nest

  number_is : Number d.loaded page r.number
  number_is =
      subst (λ (k : ℕ). Number d.loaded page k) (sym h.number_is)
      (go d.loaded (one_loop page.points) (is_blocked (nest_in d.nest)) refl refl refl)
    where
      go
          : (a b c : Bool) → d.loaded ≡ a → one_loop page.points ≡ b → is_blocked (nest_in d.nest) ≡ c
          → Number d.loaded page (first_of (first_of (when (not a) 10) 0) (first_of (when (not b) 14) (when c 15)))
      go false b c x y z = Number.no_nest x
      go true false c x y z = Number.several x (λ o. never_both (one_is page.points o) y)
      go true true true x y z =
          Number.blocked x (is_one page.points y)
          (is-blocked page (flags_of d) (page_valid d m x) (ap is_blocked (sym nest_same) ∙ z))
      go true true false x y z =
          Number.none x (is_one page.points y)
          (λ o. never_both (blocked_is page (flags_of d) (page_valid d m x) o) (ap is_blocked (sym nest_same) ∙ z))

  module _ (zero : r.number ≡ 0) where
    loaded : d.loaded ≡ true
    loaded = go r.number number_is zero
      where
        go : (k : ℕ) → Number d.loaded page k → k ≡ 0 → d.loaded ≡ true
        go k (Number.no_nest a) e = absurd (omega arith)
        go k (Number.several a b) e = a
        go k (Number.blocked a b c) e = a
        go k (Number.none a b c) e = a

    one-loop : one_loop page.points ≡ true
    one-loop = go r.number number_is zero
      where
        go : (k : ℕ) → Number d.loaded page k → k ≡ 0 → one_loop page.points ≡ true
        go k (Number.no_nest a) e = absurd (omega arith)
        go k (Number.several a b) e = absurd (omega arith)
        go k (Number.blocked a b c) e = one_is page.points b
        go k (Number.none a b c) e = one_is page.points b

    valid : is_valid n ≡ true
    valid = page_valid d m loaded

    unblocked : is_blocked n ≡ false
    unblocked = go r.number number_is zero
      where
        go : (k : ℕ) → Number d.loaded page k → k ≡ 0 → is_blocked n ≡ false
        go k (Number.no_nest a) e = absurd (omega arith)
        go k (Number.several a b) e = absurd (omega arith)
        go k (Number.blocked a b c) e = absurd (omega arith)
        go k (Number.none a b c) e = false_by (λ z. c (is-blocked page (flags_of d) valid z))

    gaps_are : gaps_in r.set.words ≡ textbook_of page.points page.barred (mapped page.deps)
    gaps_are =
        let z : gaps_in r.set.words ≡ textbook_on (desk_in d) =
        rw (eq-eqb (textbook_fault (desk_in d)) 0 (sym h.number_is ∙ zero)) at h.set_is in
        z ∙ ap (λ (x : Nest). textbook_of x.points x.barred x.deps) nest_same

    given : Given d r
    given =
        let c : is_correct n (gaps_in r.set.words) ≡ true =
        ap (λ (x : List ℕ). is_correct n x) gaps_are ∙ textbook_correct n unblocked in
        let wide =
        rising_wider 0 (length page.points) 256 (gaps_in r.set.words) (valid_is n valid).few_points
        (correct_gaps n (gaps_in r.set.words) c) in
        record {
          gaps = gaps_in r.set.words;
          set = set_here r.set.words wide;
          method = subst (λ (x : List ℕ). Textbook page x) (sym gaps_are) (method page (flags_of d) valid unblocked);
          correct =
              is-correct page (flags_of d) (shaped page (flags_of d) valid) (fit page (flags_of d) valid)
              (gaps_in r.set.words) c;
          count = λ key k.
              ap length gaps_are ∙ textbook_count n unblocked valid one-loop ∙
              ap length
              (sym (key_same d m key k ∙ m.paper.key_is k.planned ∙ ap key_of nest_same));
        }

pub textbook_kept : TextbookMethod
textbook_kept =
    record {
      number = λ d r q h. (number_is d (reached_made d q) r h, h.line_is);
      answer = λ d r q h z. given d (reached_made d q) r h z;
    }
