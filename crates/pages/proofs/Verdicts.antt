-- What Mark's verdicts mean on the page of the demands.
-- Main statement: `verdict_means`.
use mathlib.Core.Path.{◌≡◌, refl, sym, ◌∙◌, ap, subst}
use mathlib.Core.Bool.{true}
use mathlib.Core.List.{List}
use Prim.Native.Nat.{ℕ, ◌<◌}
use native.Mathlib.Omega.{arith}
use lib.ListN.{length, get_or}
use Rattle.laws.proofs.Tests.{never_both}
use Rattle.paper_nests.specs.declared.Dependence as DE
use Rattle.paper_nests.specs.Nests.{Dep, Nest}
use Rattle.paper_nests.specs.Loops.{end_of}
use Rattle.paper_nests.specs.Valid.{is_shape, is_valid}
use Rattle.paper_nests.specs.Stored.{dep_in}
use Rattle.paper_placements.specs.declared.Counts as DC
use Rattle.paper_placements.specs.Placements.{cuts, are_gaps, avoids}
use Rattle.paper_order.specs.Keys.{IsKey}
use Rattle.paper_order.specs.Verdicts.{Uncut, Dearer, Best, mark_of}
use Rattle.paper_placements.proofs.Cuts.{correct_gaps}
use Rattle.paper_order.proofs.Verdicts.{uncut_lowest, best_key, dearer_greater}
use Rattle.desk.specs.declared.Verdict as DV
use Rattle.desk.specs.declared.Verdict.TheVariants as VV
use Rattle.desk.specs.Says.{verdict_in}
use Rattle.pages.specs.Demands as P
use Rattle.pages.specs.Demands.{At, HowMany, Own, Paper}
use Rattle.pages.proofs.Lists.{at_is, is_at}
use Rattle.pages.proofs.Bodies.{loop_end, loop_do, loop_at}
use Rattle.pages.proofs.Placements.{mapped, nest_of, mapped_at, mapped_length, is-cut, cut_is}
use Rattle.pages.proofs.Placements.{counted, is-correct}
use Rattle.pages.proofs.Keys.{shaped, fit, is_same, best-of}

module _ (p : Paper) (fs : List ℕ) (valid : is_valid (nest_of p fs) ≡ true) (key : List ℕ) (k : IsKey (nest_of p fs) key)
    (gs : List ℕ) (rising : are_gaps (nest_of p fs) gs ≡ true) (avoiding : avoids p.barred gs ≡ true) where
  abbrev n : Nest
  n = nest_of p fs

  abbrev ps : List ℕ
  ps = p.points

  shape : is_shape ps ≡ true
  shape = shaped p fs valid

  none : Dep
  none = record { kind = 0; d = 0; s = 0; t = 0 }

  no_dep : DE.Dependence
  no_dep = record { kind = 0; d = 0; s = 0; t = 0 }

  dep-at : (i : ℕ) (x : DE.Dependence) → At p.deps i x → get_or (mapped p.deps) i none ≡ dep_in x
  dep-at i x a = at_is (mapped p.deps) i (dep_in x) none (mapped_at p.deps i x a)

  uncut_means : (i : ℕ) → mark_of n key gs ≡ Uncut i → P.Says p key gs (VV.Uncut i)
  uncut_means i h =
      let l = uncut_lowest n key gs none i h in
      let there : i < length p.deps = omega (arith, l.there, mapped_length p.deps) in
      let x = get_or p.deps i no_dep in
      let at : At p.deps i x = is_at p.deps i x no_dep there refl in
      record {
        not_cut = (
          x,
          (
            at,
            (λ c.
                never_both (cut_is ps shape x gs c)
                (ap (λ (e : Dep). cuts ps e gs) (sym (dep-at i x at)) ∙ l.not_cut)),
          ),
        );
        lower_cut =
            λ j y b a.
            is-cut ps shape y gs (fit p fs valid y (j, a))
            (ap (λ (e : Dep). cuts ps e gs) (sym (dep-at j y a)) ∙ l.lower j b);
      }

  best_means : mark_of n key gs ≡ Best → P.Says p key gs VV.Best
  best_means h = best-of p fs valid gs (best_key n shape key gs k rising avoiding h)

  dearer_means
      : (c : DC.Counts) → mark_of n key gs ≡ Dearer c.d c.theirs c.ours → P.Says p key gs (VV.Dearer c)
  dearer_means c h =
      let b = dearer_greater n shape key gs k rising avoiding c.d c.theirs c.ours h in
      let e = end_of ps c.d in
      let l = loop_at ps shape c.d b.is_loop in
      let risen = correct_gaps n key k.correct in
      record {
        correct = is-correct p fs shape (fit p fs valid) gs b.correct;
        end = e;
        loop = l;
        theirs_are =
            subst (λ (x : ℕ). HowMany (Own ps c.d e) gs x) (sym b.theirs_is)
            (counted ps shape n refl c.d e 0 l gs rising);
        ours_are =
            subst (λ (x : ℕ). HowMany (Own ps c.d e) key x) (sym b.ours_is)
            (counted ps shape n refl c.d e 0 l key risen);
        more = b.dearer;
        first =
            λ x y m w.
            is_same n shape key gs risen rising x y m
            (b.earlier x (loop_do ps x y m) (omega (arith, w, loop_end ps x y m)));
      }

  pub verdict_means : (v : DV.Verdict) → verdict_in v ≡ mark_of n key gs → P.Says p key gs v
  verdict_means (VV.Uncut i) h = uncut_means i (sym h)
  verdict_means VV.Best h = best_means (sym h)
  verdict_means (VV.Dearer c) h = dearer_means c (sym h)
