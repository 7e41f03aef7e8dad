-- Tries of the textbook method on its page are those of the definition: greedy cuts go on with the dependences that
-- nothing cuts so far, and a set is determined by its members.
-- Main statements: `greedy_made`, `greedy_is`, `try_made`, `try_is`.
use mathlib.Core.Path.{◌≡◌, refl, sym, ◌∙◌, ap, subst}
use mathlib.Core.Bool.{Bool, true, false, ◌||◌, not}
use mathlib.Core.List.{List, [], ◌∷◌, ◌++◌}
use mathlib.Core.Logic.{◌⊎◌, inl, inr, ⊎_elim}
use Prim.Native.Nat.{ℕ, zero, suc, ◌+◌, ◌-◌, ◌≤◌, ◌<◌}
use native.Mathlib.Omega.{arith}
use lib.Dec.{eqb}
use lib.ListN.{length}
use borrow.Author.Tests.{eq-eqb, eqb-true, not-true}
use Rattle.laws.specs.Choice.{pick, is_in}
use Rattle.laws.specs.Members.{Among}
use Rattle.laws.proofs.Tests.{never_both, or-true, or_left, or_right, false_by, bool_by}
use Rattle.paper_nests.specs.declared.Dependence as DE
use Rattle.paper_nests.specs.Nests.{Dep}
use Rattle.paper_nests.specs.Gaps.{has_gap}
use Rattle.paper_nests.specs.Valid.{is_shape, is_valid}
use Rattle.paper_nests.specs.Stored.{dep_in}
use Rattle.paper_placements.specs.Placements.{cuts, is_free}
use Rattle.paper_placements.specs.Words.{kept, gaps_of}
use Rattle.paper_placements.proofs.Rising.{rising_equal}
use Rattle.call_textbook.specs.Tries.{line_after, lacking, some_ends, cuts_on, try_at}
use Rattle.call_textbook.proofs.Apart.{in_rising}
use Rattle.call_textbook.proofs.Greedy.{Ending, lacking_in, in_lacking, some_end, end_some}
use Rattle.call_textbook.proofs.Results.{try_gaps}
use Rattle.call_textbook.proofs.Tried.{Tried}
use Rattle.pages.specs.Demands.{In, Cut, GapOf, Paper}
use Rattle.pages.proofs.Lists.{in_is, is-in, in_among}
use Rattle.pages.proofs.Placements.{mapped, nest_of, mapped_at, gap_is, is-gap, cut_is, is-cut, rising_is, is_rising}
use Rattle.pages.proofs.Keys.{shaped, fit}
use Rattle.pages_requests.specs.Textbook.{Stretch, Open, EndsAt, Greedy, Try}
use Rattle.pages_requests.proofs.Papers.{mapped_in}

-- ---- stretches of unbarred gaps

module _ (p : Paper) where
  abbrev free : ℕ → Bool
  free = is_free p.barred

  stretch_le : (a b : ℕ) (gs : List ℕ) → Stretch p a b gs → a ≤ b
  stretch_le a b gs (Stretch.done e) = omega arith
  stretch_le a b gs (Stretch.free {gs = hs} h r) = omega (arith, stretch_le (suc a) b hs r)
  stretch_le a b gs (Stretch.barred h r) = omega (arith, stretch_le (suc a) b gs r)

  stretch_is : (k a b : ℕ) (gs : List ℕ) → a + k ≡ b → Stretch p a b gs → gs ≡ gaps_of free k a
  unfolding gaps_of
  stretch_is zero a b gs e (Stretch.done q) = refl
  stretch_is zero a b gs e (Stretch.free {gs = hs} h r) = absurd (omega (arith, stretch_le (suc a) b hs r))
  stretch_is zero a b gs e (Stretch.barred h r) = absurd (omega (arith, stretch_le (suc a) b gs r))
  stretch_is (suc k) a b gs e (Stretch.done q) = absurd (omega arith)
  stretch_is (suc k) a b gs e (Stretch.free {gs = hs} h r) =
      let f : is_in a p.barred ≡ false = false_by (λ z. h (is-in a p.barred z)) in
      rw f (ap (λ (l : List ℕ). a ∷ l) (stretch_is k (suc a) b hs (omega arith) r))
  stretch_is (suc k) a b gs e (Stretch.barred h r) =
      rw (in_is a p.barred h.0 h.1) (stretch_is k (suc a) b gs (omega arith) r)

  stretch_made : (k a b : ℕ) → a + k ≡ b → Stretch p a b (gaps_of free k a)
  unfolding gaps_of
  stretch_made zero a b e = let z : a ≡ b = omega arith in Stretch.done z
  stretch_made (suc k) a b e = go (is_in a p.barred) refl (stretch_made k (suc a) b (omega arith))
    where
      go
          : (t : Bool) → is_in a p.barred ≡ t → Stretch p (suc a) b (gaps_of free k (suc a))
          → Stretch p a b (kept (not t) a (gaps_of free k (suc a)))
      go true h r = Stretch.barred (is-in a p.barred h) r
      go false h r = Stretch.free (λ i. never_both (in_is a p.barred i.0 i.1) h) r

-- ---- greedy cuts

module _ (p : Paper) (fl : List ℕ) (valid : is_valid (nest_of p fl) ≡ true) where
  abbrev ps : List ℕ
  ps = p.points

  shape : is_shape ps ≡ true
  shape = shaped p fl valid

  -- the dependences that the barriers put so far leave open
  record Opens (put : List ℕ) (ds : List Dep) : Type 0 where
    to : (e : Dep) → Among e ds → (x : DE.Dependence) × (Open p put x × (e ≡ dep_in x))
    from : (x : DE.Dependence) → Open p put x → Among (dep_in x) ds

  opens_all : Opens [] (mapped p.deps)
  opens_all =
      record {
        to =
            λ e a.
            let q = mapped_in p.deps e a in
            (q.0, ((q.1.0, λ c. c.1.0.1), q.1.1));
        from = λ x o. in_among (dep_in x) (mapped p.deps) o.0.0 (mapped_at p.deps o.0.0 x o.0.1);
      }

  opens_next : (h : ℕ) (put : List ℕ) (ds : List Dep) → Opens put ds → Opens (h ∷ put) (lacking ps h ds)
  opens_next h put ds o = record { to = to; from = from }
    where
      still : (x : DE.Dependence) → has_gap ps (dep_in x) h ≡ false → (Cut ps x put → ⊥) → Cut ps x (h ∷ put) → ⊥
      still x n u (g, ((zero, e), k)) = never_both (gap_is ps shape x h (subst (λ (y : ℕ). GapOf ps x y) (sym e) k)) n
      still x n u (g, ((suc i, e), k)) = u (g, ((i, e), k))

      to : (e : Dep) → Among e (lacking ps h ds) → (x : DE.Dependence) × (Open p (h ∷ put) x × (e ≡ dep_in x))
      to e a =
          let l = lacking_in ps h ds e a in
          let q = o.to e l.0 in
          let n : has_gap ps (dep_in q.0) h ≡ false = ap (λ (y : Dep). has_gap ps y h) (sym q.1.1) ∙ l.1 in
          (q.0, ((q.1.0.0, still q.0 n q.1.0.1), q.1.1))

      from : (x : DE.Dependence) → Open p (h ∷ put) x → Among (dep_in x) (lacking ps h ds)
      from x (i, u) =
          in_lacking ps h ds (dep_in x) (o.from x (i, λ c. u (c.0, ((suc c.1.0.0, c.1.0.1), c.1.1))))
          (false_by (λ z. u (h, ((0, refl), is-gap ps shape x h (fit p fl valid x i) z))))

  -- a dependence that ends, on the page and in the definition
  ending
      : (h : ℕ) (hs put : List ℕ) (ds : List Dep) → Opens put ds → Ending ps h hs ds
      → (x : DE.Dependence) × (Open p put x × EndsAt p h hs x)
  ending h hs put ds o y =
      let q = o.to y.dependence y.there in
      let x = q.0 in
      let i = q.1.0.0 in (
        x,
        (
          q.1.0,
          (
            is-gap ps shape x h (fit p fl valid x i) (ap (λ (e : Dep). has_gap ps e h) (sym q.1.1) ∙ y.its),
            λ c. never_both (cut_is ps shape x hs c) (ap (λ (e : Dep). cuts ps e hs) (sym q.1.1) ∙ y.last),
          ),
        ),
      )

  is_ending
      : (h : ℕ) (hs put : List ℕ) (ds : List Dep) → Opens put ds → (x : DE.Dependence) → Open p put x → EndsAt p h hs x
      → Ending ps h hs ds
  is_ending h hs put ds o x u e =
      record {
        dependence = dep_in x;
        there = o.from x u;
        its = gap_is ps shape x h e.0;
        last = false_by (λ z. e.1 (is-cut ps shape x hs (fit p fl valid x u.0) z));
      }

  greedy_made : (hs put : List ℕ) (ds : List Dep) → Opens put ds → Greedy p put hs (cuts_on ps hs ds)
  unfolding cuts_on
  greedy_made [] put ds o = Greedy.none
  greedy_made (h ∷ hs) put ds o =
      go (some_ends ps h hs ds) refl (greedy_made hs (h ∷ put) (lacking ps h ds) (opens_next h put ds o))
      (greedy_made hs put ds o)
    where
      go
          : (t : Bool) → some_ends ps h hs ds ≡ t → Greedy p (h ∷ put) hs (cuts_on ps hs (lacking ps h ds))
          → Greedy p put hs (cuts_on ps hs ds)
          → Greedy p put (h ∷ hs) (kept t h (cuts_on ps hs (pick t (lacking ps h ds) ds)))
      go true z a b = let q = ending h hs put ds o (some_end ps h hs ds z) in Greedy.cut q.0 q.1.0 q.1.1 a
      go false z a b =
          Greedy.pass (λ x u e. never_both (end_some ps h hs ds (is_ending h hs put ds o x u e)) z) b

  greedy_is : (hs put out : List ℕ) (ds : List Dep) → Opens put ds → Greedy p put hs out → out ≡ cuts_on ps hs ds
  unfolding cuts_on
  greedy_is hs put out ds o Greedy.none = refl
  greedy_is hs put out ds o (Greedy.cut {hs = ks} {out = us} {h = h} x u e r) =
      rw (end_some ps h ks ds (is_ending h ks put ds o x u e))
      (ap (λ (l : List ℕ). h ∷ l) (greedy_is ks (h ∷ put) us (lacking ps h ds) (opens_next h put ds o) r))
  greedy_is hs put out ds o (Greedy.pass {hs = ks} {h = h} n r) =
      let f : some_ends ps h ks ds ≡ false =
      false_by (λ z. let q = ending h ks put ds o (some_end ps h ks ds z) in n q.0 q.1.0 q.1.1) in
      rw f (greedy_is ks put out ds o r)

  -- ---- tries

  abbrev bs : List ℕ
  bs = p.barred

  abbrev all : List Dep
  all = mapped p.deps

  -- the gaps that are tried
  pub tried : (g : ℕ) → (0 < g) × (g < length ps) × (In g bs → ⊥) → Tried bs (length ps - 1) g
  tried g h =
      record {
        first = h.0;
        inside = omega (arith, h.1);
        free = ap not (false_by (λ z. h.2 (is-in g bs z)));
      }

  is_gap_tried : (g : ℕ) → Tried bs (length ps - 1) g → (0 < g) × (g < length ps) × (In g bs → ⊥)
  is_gap_tried g t = (
    t.first,
    omega (arith, t.first, t.inside),
    λ i. never_both (in_is g bs i.0 i.1) (not-true (is_in g bs) t.free),
  )

  cuts_of : ℕ → List ℕ
  cuts_of g = cuts_on ps (line_after ps bs g) (lacking ps g all)

  in_try
      : (g h : ℕ) → is_in h (try_at ps bs all g) ≡ (eqb h g || is_in h (cuts_on ps (line_after ps bs g) (lacking ps g all)))
  unfolding try_at
  in_try g h = in_rising h (g ∷ cuts_on ps (line_after ps bs g) (lacking ps g all))

  pub try_made : (g : ℕ) → Tried bs (length ps - 1) g → Try p g (try_at ps bs all g)
  try_made g t =
      let b = is_gap_tried g t in
      record {
        gap = b;
        after = gaps_of (is_free bs) (length ps - suc g) (suc g);
        before = gaps_of (is_free bs) (g - 1) 1;
        cuts = cuts_on ps (line_after ps bs g) (lacking ps g all);
        after_are = stretch_made p (length ps - suc g) (suc g) (length ps) (omega (arith, b.1));
        before_are = stretch_made p (g - 1) 1 g (omega (arith, b.0));
        greedy = greedy_made (line_after ps bs g) (g ∷ []) (lacking ps g all) (opens_next g [] all opens_all);
        rising = is_rising (length ps) 0 (try_at ps bs all g) (try_gaps ps bs all (length ps - 1) refl g t);
        members =
            λ h. (
              (λ i.
                  ⊎_elim
                  (λ (z : eqb h g ≡ true). inl (eqb-true h g z))
                  (λ (z : is_in h (cuts_on ps (line_after ps bs g) (lacking ps g all)) ≡ true).
                  inr (is-in h (cuts_on ps (line_after ps bs g) (lacking ps g all)) z))
                  (or-true (eqb h g) (is_in h (cuts_on ps (line_after ps bs g) (lacking ps g all)))
                  (sym (in_try g h) ∙ in_is h (try_at ps bs all g) i.0 i.1))),
              (λ i.
                  is-in h (try_at ps bs all g)
                  (in_try g h ∙
                  ⊎_elim
                  (λ (z : h ≡ g). or_left (is_in h (cuts_on ps (line_after ps bs g) (lacking ps g all))) (eq-eqb h g z))
                  (λ (z : In h (cuts_on ps (line_after ps bs g) (lacking ps g all))).
                  or_right (eqb h g) (in_is h (cuts_on ps (line_after ps bs g) (lacking ps g all)) z.0 z.1))
                  i)),
            );
      }

  pub try_is : (g : ℕ) (out : List ℕ) → Try p g out → out ≡ try_at ps bs all g
  try_is g out t =
      let w = tried g t.gap in
      rising_equal 0 (length ps) out (try_at ps bs all g) (rising_is (length ps) 0 out t.rising)
      (try_gaps ps bs all (length ps - 1) refl g w) (λ h. same h)
    where
      line_is : (t.after ++ t.before) ≡ line_after ps bs g
      line_is =
          let a =
          stretch_is p (length ps - suc g) (suc g) (length ps) t.after (omega (arith, t.gap.1)) t.after_are in
          let b = stretch_is p (g - 1) 1 g t.before (omega (arith, t.gap.0)) t.before_are in
          cc (a, b)

      cuts_are : t.cuts ≡ cuts_on ps (line_after ps bs g) (lacking ps g all)
      cuts_are =
          greedy_is (t.after ++ t.before) (g ∷ []) t.cuts (lacking ps g all) (opens_next g [] all opens_all)
          t.greedy ∙
          ap (λ (l : List ℕ). cuts_on ps l (lacking ps g all)) line_is

      same : (h : ℕ) → is_in h out ≡ is_in h (try_at ps bs all g)
      same h =
          bool_by (is_in h out) (is_in h (try_at ps bs all g))
          (λ z. in_try g h ∙ there ((t.members h).0 (is-in h out z)))
          (λ z.
          let i =
          (t.members h).1 (back (or-true (eqb h g) (is_in h (cuts_on ps (line_after ps bs g) (lacking ps g all)))
          (sym (in_try g h) ∙ z))) in
          in_is h out i.0 i.1)
        where
          there
              : (h ≡ g) ⊎ In h t.cuts
              → (eqb h g || is_in h (cuts_on ps (line_after ps bs g) (lacking ps g all))) ≡ true
          there (inl z) = or_left (is_in h (cuts_on ps (line_after ps bs g) (lacking ps g all))) (eq-eqb h g z)
          there (inr z) = or_right (eqb h g) (ap (is_in h) (sym cuts_are) ∙ in_is h t.cuts z.0 z.1)

          back
              : (eqb h g ≡ true) ⊎ (is_in h (cuts_on ps (line_after ps bs g) (lacking ps g all)) ≡ true)
              → (h ≡ g) ⊎ In h t.cuts
          back (inl z) = inl (eqb-true h g z)
          back (inr z) = inr (is-in h t.cuts (ap (is_in h) cuts_are ∙ z))
