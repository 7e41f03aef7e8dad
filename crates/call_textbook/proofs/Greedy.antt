-- Greedy cuts on a line: they cut every dependence that has a gap there. Where the gaps of each follow each other
-- without a break, they are no more than the gaps of any set that meets all of them: along the line the cuts so far are
-- at most the gaps of the set that were passed, and one more where the next gap lies in what was met.
-- Main definitions: `is_unbroken`, `counted`, `meets`. Main statements: `lacking_in`, `in_lacking`, `some_end`,
-- `none_end`, `end_some`, `cuts_in_line`, `line_cut`, `cuts_at_most`, `cuts_few`.
use mathlib.Core.Path.{◌≡◌, refl, sym, subst, ◌∙◌}
use mathlib.Core.Bool.{Bool, true, false, ◌&&◌, ◌||◌, not}
use mathlib.Core.List.{List, [], ◌∷◌}
use mathlib.Core.Logic.{◌⊎◌, inl, inr, ⊎_elim}
use Prim.Native.Nat.{ℕ, ◌+◌, ◌≤◌}
use native.Mathlib.Omega.{arith}
use lib.ListN.{length}
use borrow.Author.Tests.{not-true}
use Rattle.laws.specs.Choice.{pick, is_in}
use Rattle.laws.specs.Bits.{one}
use Rattle.laws.specs.Members.{Among}
use Rattle.laws.proofs.Tests.{never, never_both, and_intro, and_true, or-true, or_false, or_left, or_right}
use Rattle.laws.proofs.Tests.{test, true_by}
use Rattle.laws.proofs.Implies.{implied}
use Rattle.laws.proofs.Members.{in_here, in_later, in_cons}
use Rattle.paper_nests.specs.Nests.{Dep}
use Rattle.paper_nests.specs.Gaps.{has_gap}
use Rattle.paper_placements.specs.Placements.{cuts}
use Rattle.paper_placements.specs.Words.{kept}
use Rattle.call_textbook.specs.Tries.{lacking, ends_at, some_ends, cuts_on}

module _ (ps : List ℕ) where
  -- ---- dependences that lack a gap, and those that end at one

  pub lacking_in : (g : ℕ) (ds : List Dep) (e : Dep) → Among e (lacking ps g ds) → Among e ds × (has_gap ps e g ≡ false)
  lacking_in g [] e a = absurd a
  lacking_in g (x ∷ xs) e a = go (has_gap ps x g) refl a (lacking_in g xs e)
    where
      go
          : (t : Bool) → has_gap ps x g ≡ t → Among e (pick t (lacking ps g xs) (x ∷ lacking ps g xs))
          → (Among e (lacking ps g xs) → Among e xs × (has_gap ps e g ≡ false))
          → Among e (x ∷ xs) × (has_gap ps e g ≡ false)
      go true h b rest = let r = rest b in (inr r.0, r.1)
      go false h (inl z) rest = (inl z, rw z h)
      go false h (inr z) rest = let r = rest z in (inr r.0, r.1)

  pub in_lacking : (g : ℕ) (ds : List Dep) (e : Dep) → Among e ds → has_gap ps e g ≡ false → Among e (lacking ps g ds)
  in_lacking g [] e a h = absurd a
  in_lacking g (x ∷ xs) e a h = go (has_gap ps x g) refl a (in_lacking g xs e)
    where
      go
          : (t : Bool) → has_gap ps x g ≡ t → Among e (x ∷ xs)
          → (Among e xs → has_gap ps e g ≡ false → Among e (lacking ps g xs))
          → Among e (pick t (lacking ps g xs) (x ∷ lacking ps g xs))
      go true k (inl z) rest = never (sym h ∙ rw z k)
      go true k (inr z) rest = rest z h
      go false k (inl z) rest = inl z
      go false k (inr z) rest = inr (rest z h)

  -- a dependence that ends at h
  pub record Ending (h : ℕ) (hs : List ℕ) (ds : List Dep) : Type 0 where
    pub dependence : Dep
    pub there : Among dependence ds
    pub its : has_gap ps dependence h ≡ true
    pub last : cuts ps dependence hs ≡ false

  pub some_end : (h : ℕ) (hs : List ℕ) (ds : List Dep) → some_ends ps h hs ds ≡ true → Ending h hs ds
  some_end h hs [] k = never k
  some_end h hs (e ∷ es) k = ⊎_elim
      (λ (z : ends_at ps h hs e ≡ true).
      let y = and_true (has_gap ps e h) (not (cuts ps e hs)) z in
      record { dependence = e; there = inl refl; its = y.0; last = not-true (cuts ps e hs) y.1 })
      (λ (z : some_ends ps h hs es ≡ true).
      let y = some_end h hs es z in
      record { dependence = y.dependence; there = inr y.there; its = y.its; last = y.last })
      (or-true (ends_at ps h hs e) (some_ends ps h hs es) k)

  -- where none ends, each that has h goes on
  pub none_end
      : (h : ℕ) (hs : List ℕ) (ds : List Dep) → some_ends ps h hs ds ≡ false → (e : Dep) → Among e ds
      → has_gap ps e h ≡ true → cuts ps e hs ≡ true
  none_end h hs [] k e a i = absurd a
  none_end h hs (x ∷ xs) k e a i =
      let z = or_false (ends_at ps h hs x) (some_ends ps h hs xs) k in
      ⊎_elim
      (λ (q : e ≡ x).
      true_by (λ (n : cuts ps e hs ≡ false).
      let y : ends_at ps h hs e ≡ true = and_intro i (rw n) in
      never_both (rw q at y) z.0))
      (λ (q : Among e xs). none_end h hs xs z.1 e q i)
      a

  pub end_some : (h : ℕ) (hs : List ℕ) (ds : List Dep) → Ending h hs ds → some_ends ps h hs ds ≡ true
  end_some h hs ds y =
      true_by
      (λ n. never_both (none_end h hs ds n y.dependence y.there y.its) y.last)

  -- ---- what is cut

  -- each cut is a gap of the line
  pub cuts_in_line : (hs : List ℕ) (ds : List Dep) (i : ℕ) → is_in i (cuts_on ps hs ds) ≡ true → is_in i hs ≡ true
  unfolding cuts_on
  cuts_in_line [] ds i k = never k
  cuts_in_line (h ∷ hs) ds i k = go (some_ends ps h hs ds) k (λ es. cuts_in_line hs es i)
    where
      go
          : (t : Bool) → is_in i (kept t h (cuts_on ps hs (pick t (lacking ps h ds) ds))) ≡ true
          → ((es : List Dep) → is_in i (cuts_on ps hs es) ≡ true → is_in i hs ≡ true)
          → is_in i (h ∷ hs) ≡ true
      go true q rest = ⊎_elim
          (λ (z : i ≡ h). let P : ℕ → Type 0 = λ n. is_in n (h ∷ hs) ≡ true in subst P (sym z) (in_here h hs))
          (λ (z : is_in i (cuts_on ps hs (lacking ps h ds)) ≡ true). in_later i h hs (rest (lacking ps h ds) z))
          (in_cons i h (cuts_on ps hs (lacking ps h ds)) q)
      go false q rest = in_later i h hs (rest ds q)

  -- a dependence that has a gap of the line is cut
  pub line_cut
      : (hs : List ℕ) (ds : List Dep) (e : Dep) → Among e ds → cuts ps e hs ≡ true → cuts ps e (cuts_on ps hs ds) ≡ true
  unfolding cuts_on
  line_cut [] ds e a k = never k
  line_cut (h ∷ hs) ds e a k = go (some_ends ps h hs ds) refl (λ es. line_cut hs es e)
    where
      go
          : (t : Bool) → some_ends ps h hs ds ≡ t
          → ((es : List Dep) → Among e es → cuts ps e hs ≡ true → cuts ps e (cuts_on ps hs es) ≡ true)
          → cuts ps e (kept t h (cuts_on ps hs (pick t (lacking ps h ds) ds))) ≡ true
      go true n rest = ⊎_elim
          (λ (z : has_gap ps e h ≡ true). or_left (cuts ps e (cuts_on ps hs (lacking ps h ds))) z)
          (λ (z : has_gap ps e h ≡ false).
          let y : cuts ps e hs ≡ true = rw z at k in
          or_right (has_gap ps e h) (rest (lacking ps h ds) (in_lacking h ds e a z) y))
          (test (has_gap ps e h))
      go false n rest = rest ds a (⊎_elim
          (λ (z : has_gap ps e h ≡ true). none_end h hs ds n e a z)
          (λ (z : cuts ps e hs ≡ true). z)
          (or-true (has_gap ps e h) (cuts ps e hs) k))

  -- ---- how many

  -- the first gap of the line is one of the dependence's
  abbrev pub leads : Dep → List ℕ → Bool
  leads e [] = false
  leads e (h ∷ hs) = has_gap ps e h

  -- along the line the gaps of the dependence follow each other without a break
  abbrev pub is_unbroken : Dep → List ℕ → Bool
  is_unbroken e [] = true
  is_unbroken e (h ∷ hs) = (not (has_gap ps e h && cuts ps e hs) || leads e hs) && is_unbroken e hs

  -- how many gaps of the line are in the set
  abbrev pub counted : (ℕ → Bool) → List ℕ → ℕ
  counted x [] = 0
  counted x (h ∷ hs) = one (x h) + counted x hs

  -- the set has a gap of the line that is one of the dependence's
  abbrev pub meets : (ℕ → Bool) → Dep → List ℕ → Bool
  meets x e [] = false
  meets x e (h ∷ hs) = (x h && has_gap ps e h) || meets x e hs

  module _ (x : ℕ → Bool) where
    meets_cuts : (e : Dep) (hs : List ℕ) → meets x e hs ≡ true → cuts ps e hs ≡ true
    meets_cuts e [] k = never k
    meets_cuts e (h ∷ hs) k = ⊎_elim
        (λ (z : (x h && has_gap ps e h) ≡ true). or_left (cuts ps e hs) (and_true (x h) (has_gap ps e h) z).1)
        (λ (z : meets x e hs ≡ true). or_right (has_gap ps e h) (meets_cuts e hs z))
        (or-true (x h && has_gap ps e h) (meets x e hs) k)

    -- the set meets what is left on the line, but, where one cut is owed, for what the first gap cuts
    abbrev Left : Bool → List ℕ → List Dep → Type 0
    Left owed hs ds =
        (e : Dep) → Among e ds → cuts ps e hs ≡ true
        → (meets x e hs ≡ true) ⊎ ((owed ≡ true) × (leads e hs ≡ true))

    abbrev AllUnbroken : List ℕ → List Dep → Type 0
    AllUnbroken hs ds = (e : Dep) → Among e ds → is_unbroken e hs ≡ true

    module _ (owed : Bool) (h : ℕ) (hs : List ℕ) (ds : List Dep) (left : Left owed (h ∷ hs) ds) where
      -- the first gap is cut: nothing is owed any more
      left_cut : Left false hs (lacking ps h ds)
      left_cut e a k =
          let l = lacking_in h ds e a in
          ⊎_elim
          (λ (z : meets x e (h ∷ hs) ≡ true).
          ⊎_elim
          (λ (y : (x h && has_gap ps e h) ≡ true). never_both (and_true (x h) (has_gap ps e h) y).1 l.1)
          (λ (y : meets x e hs ≡ true). inl y)
          (or-true (x h && has_gap ps e h) (meets x e hs) z))
          (λ (z : (owed ≡ true) × (has_gap ps e h ≡ true)). never_both z.1 l.1)
          (left e l.0 (or_right (has_gap ps e h) k))

      -- and it was owed, or is in the set
      cut_paid : Ending h hs ds → (owed ≡ true) ⊎ (x h ≡ true)
      cut_paid y = ⊎_elim
          (λ (z : meets x y.dependence (h ∷ hs) ≡ true).
          ⊎_elim
          (λ (w : (x h && has_gap ps y.dependence h) ≡ true). inr (and_true (x h) (has_gap ps y.dependence h) w).0)
          (λ (w : meets x y.dependence hs ≡ true). never_both (meets_cuts y.dependence hs w) y.last)
          (or-true (x h && has_gap ps y.dependence h) (meets x y.dependence hs) z))
          (λ (z : (owed ≡ true) × (has_gap ps y.dependence h ≡ true)). inl z.0)
          (left y.dependence y.there (or_left (cuts ps y.dependence hs) y.its))

      -- it is not cut: what has it goes on to the next
      left_on : AllUnbroken (h ∷ hs) ds → Left (owed || x h) hs ds
      left_on whole e a k =
          let u =
          (and_true (not (has_gap ps e h && cuts ps e hs) || leads e hs) (is_unbroken e hs) (whole e a)).0 in
          let on : has_gap ps e h ≡ true → leads e hs ≡ true =
          λ i. implied (has_gap ps e h && cuts ps e hs) (leads e hs) u (and_intro i k) in
          ⊎_elim
          (λ (z : meets x e (h ∷ hs) ≡ true).
          ⊎_elim
          (λ (y : (x h && has_gap ps e h) ≡ true).
          let w = and_true (x h) (has_gap ps e h) y in
          inr (or_right owed w.0, on w.1))
          (λ (y : meets x e hs ≡ true). inl y)
          (or-true (x h && has_gap ps e h) (meets x e hs) z))
          (λ (z : (owed ≡ true) × (has_gap ps e h ≡ true)). inr (or_left (x h) z.0, on z.1))
          (left e a (or_right (has_gap ps e h) k))

      rest_unbroken : AllUnbroken (h ∷ hs) ds → AllUnbroken hs ds
      rest_unbroken whole e a =
          (and_true (not (has_gap ps e h && cuts ps e hs) || leads e hs) (is_unbroken e hs) (whole e a)).1

    pub cuts_at_most
        : (owed : Bool) (hs : List ℕ) (ds : List Dep) → AllUnbroken hs ds → Left owed hs ds
        → length (cuts_on ps hs ds) ≤ one owed + counted x hs
    unfolding cuts_on
    cuts_at_most owed [] ds whole left = omega arith
    cuts_at_most owed (h ∷ hs) ds whole left =
        go (some_ends ps h hs ds) refl (x h) refl (λ o es. cuts_at_most o hs es)
      where
        paid : (o t : Bool) → (o ≡ true) ⊎ (t ≡ true) → 1 ≤ one o + one t
        paid true true z = omega arith
        paid true false z = omega arith
        paid false true z = omega arith
        paid false false (inl z) = never z
        paid false false (inr z) = never z

        both : (o t : Bool) → one (o || t) ≤ one o + one t
        both true true = omega arith
        both true false = omega arith
        both false true = omega arith
        both false false = omega arith

        go
            : (t : Bool) → some_ends ps h hs ds ≡ t → (y : Bool) → x h ≡ y
            → ((o : Bool) (es : List Dep) → AllUnbroken hs es → Left o hs es
            → length (cuts_on ps hs es) ≤ one o + counted x hs)
            → length (kept t h (cuts_on ps hs (pick t (lacking ps h ds) ds))) ≤ one owed + (one (x h) + counted x hs)
        go true n y q rest =
            let whole' : AllUnbroken hs (lacking ps h ds) =
            λ e a. rest_unbroken owed h hs ds left whole e (lacking_in h ds e a).0 in
            let r = rest false (lacking ps h ds) whole' (left_cut owed h hs ds left) in
            omega (arith, r, paid owed (x h) (cut_paid owed h hs ds left (some_end h hs ds n)))
        go false n y q rest =
            let r =
            rest (owed || x h) ds (rest_unbroken owed h hs ds left whole) (left_on owed h hs ds left whole) in
            omega (arith, r, both owed (x h))

    -- no more than the gaps of a set that meets all
    pub cuts_few
        : (hs : List ℕ) (ds : List Dep)
        → ((e : Dep) → Among e ds → is_unbroken e hs ≡ true)
        → ((e : Dep) → Among e ds → cuts ps e hs ≡ true → meets x e hs ≡ true)
        → length (cuts_on ps hs ds) ≤ counted x hs
    cuts_few hs ds whole met = omega (arith, cuts_at_most false hs ds whole (λ e a k. inl (met e a k)))
