-- A paper is blocked on the page just if the project's test says so; one loop likewise.
-- Main statements: `blocked_is`, `is-blocked`, `one_is`, `is_one`, `gap_there`.
use mathlib.Core.Path.{◌≡◌, refl, sym, ◌∙◌, ap, subst}
use mathlib.Core.Bool.{true, not}
use mathlib.Core.List.{List, [], ◌∷◌}
use mathlib.Core.Logic.{inl, inr, ⊎_elim}
use Prim.Native.Nat.{ℕ, ◌<◌}
use native.Mathlib.Omega.{arith}
use lib.ListN.{length, get_or}
use borrow.Author.Tests.{eq-eqb, eqb-true}
use Rattle.laws.specs.Members.{Among}
use Rattle.laws.proofs.Tests.{never, never_both, or-true, true_by}
use Rattle.paper_nests.specs.declared.Dependence as DE
use Rattle.paper_nests.specs.Nests.{Dep}
use Rattle.paper_nests.specs.Ring.{one_loop}
use Rattle.paper_nests.specs.Valid.{is_shape, is_valid}
use Rattle.paper_nests.specs.Stored.{dep_in}
use Rattle.paper_nests.proofs.Levels.{point_in}
use Rattle.paper_nests.proofs.Loops.{end_there}
use Rattle.paper_nests.proofs.Deps.{Fits}
use Rattle.paper_nests.proofs.Ring.{one_loop_is_first, first_is_one_loop}
use Rattle.paper_barred.specs.Reduced.{is_shut, some_shut, is_blocked}
use Rattle.paper_barred.proofs.Reduced.{Open, open_by}
use Rattle.paper_barred.proofs.ReducedNest.{none_shut}
use Rattle.pages.specs.Demands.{In, OneLoop, GapOf, Paper}
use Rattle.pages.proofs.Lists.{at_in, at_is, is_at, in_is, is-in, in_among}
use Rattle.pages.proofs.Placements.{mapped, nest_of, mapped_at, gap_is, is-gap}
use Rattle.pages.proofs.Keys.{shaped, fit}
use Rattle.pages_requests.specs.Barred.{Blocked}
use Rattle.pages_requests.proofs.Papers.{mapped_in}

pub one_is : (ps : List ℕ) → OneLoop ps → one_loop ps ≡ true
one_is ps one =
    first_is_one_loop ps (λ d h. one d (is_at ps d 1 0 (point_in ps d 0 h) (eqb-true (get_or ps d 0) 1 h)))

pub is_one : (ps : List ℕ) → one_loop ps ≡ true → OneLoop ps
is_one ps h i a = one_loop_is_first ps h i (eq-eqb (get_or ps i 0) 1 (at_is ps i 1 0 a))

-- a dependence's gap is a gap of the nest
pub gap_there
    : (ps : List ℕ) → is_shape ps ≡ true → (x : DE.Dependence) (g : ℕ) → Fits ps (dep_in x) → GapOf ps x g
    → (0 < g) × (g < length ps)
gap_there ps shape x g (inl f) (GapOf.line k a b) = (omega (arith, a), omega (arith, b, f.target_there))
gap_there ps shape x g (inr f) (GapOf.line k a b) =
    let z : ◌≡◌ {A = ℕ} 17 18 = sym k ∙ f.kind_is in
    absurd (omega arith)
gap_there ps shape x g (inl f) (GapOf.front k a b) =
    let z : ◌≡◌ {A = ℕ} 18 17 = sym k ∙ f.kind_is in
    absurd (omega arith)
gap_there ps shape x g (inl f) (GapOf.back e k l a b) =
    let z : ◌≡◌ {A = ℕ} 18 17 = sym k ∙ f.kind_is in
    absurd (omega arith)
gap_there ps shape x g (inr f) (GapOf.front k a b) =
    (omega (arith, a), omega (arith, b, f.target_before, end_there ps shape x.d f.loop))
gap_there ps shape x g (inr f) (GapOf.back e k l a b) = (omega (arith, a), omega (arith, b, at_in ps e 2 l.ends))

-- a dependence that is shut
some-shut
    : (ps bs : List ℕ) (ds : List Dep) → some_shut ps bs ds ≡ true → (e : Dep) × (Among e ds × (is_shut ps bs e ≡ true))
some-shut ps bs [] h = never h
some-shut ps bs (e ∷ es) h =
    ⊎_elim
    (λ (z : is_shut ps bs e ≡ true). (e, (inl refl, z)))
    (λ (z : some_shut ps bs es ≡ true). let r = some-shut ps bs es z in (r.0, (inr r.1.0, r.1.1)))
    (or-true (is_shut ps bs e) (some_shut ps bs es) h)

module _ (p : Paper) (fl : List ℕ) (valid : is_valid (nest_of p fl) ≡ true) where
  abbrev ps : List ℕ
  ps = p.points

  shape : is_shape ps ≡ true
  shape = shaped p fl valid

  pub blocked_is : Blocked p → is_blocked (nest_of p fl) ≡ true
  blocked_is (x, (i, shut)) =
      true_by
      (λ z.
      let o = none_shut ps p.barred (mapped p.deps) z (dep_in x)
      (in_among (dep_in x) (mapped p.deps) i.0 (mapped_at p.deps i.0 x i.1)) in
      let b = shut o.gap (is-gap ps shape x o.gap (fit p fl valid x i) o.its) in
      never (subst (λ t. not t ≡ true) (in_is o.gap p.barred b.0 b.1) o.free))

  pub is-blocked : is_blocked (nest_of p fl) ≡ true → Blocked p
  is-blocked h = go (some-shut ps p.barred (mapped p.deps) h)
    where
      go : (e : Dep) × (Among e (mapped p.deps) × (is_shut ps p.barred e ≡ true)) → Blocked p
      go (e, (a, s)) = by (mapped_in p.deps e a)
        where
          by : (x : DE.Dependence) × (In x p.deps × (e ≡ dep_in x)) → Blocked p
          by (x, (i, q)) = (x, (i, λ g k. barred g k))
            where
              barred : (g : ℕ) → GapOf ps x g → In g p.barred
              barred g k =
                  is-in g p.barred
                  (true_by
                  (λ z.
                  let b = gap_there ps shape x g (fit p fl valid x i) k in
                  let o : Open ps p.barred (dep_in x) =
                  record {
                    gap = g;
                    first = b.0;
                    last = omega (arith, b.1);
                    its = gap_is ps shape x g k;
                    free = ap not z;
                  } in
                  never_both (subst (λ (y : Dep). is_shut ps p.barred y ≡ true) q s)
                  (open_by ps p.barred (dep_in x) o)))
