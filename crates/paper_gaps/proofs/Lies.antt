-- Where a dependence of a nest lies, from the table of the ends of its loops.
-- Main statements: `gap_inside`, `ring_gaps`, `of_ring`, `found_at`, `found_among`, `found_fits`, `found_ends`, `found_lies`.
use mathlib.Core.Path.{◌≡◌, sym, ◌∙◌}
use mathlib.Core.Bool.{true, ◌||◌}
use mathlib.Core.List.{List, ◌∷◌}
use mathlib.Core.Logic.{◌⊎◌, inl, inr, ⊎_elim}
use Prim.Native.Nat.{ℕ, suc, ◌≤◌, ◌<◌}
use native.Mathlib.Omega.{arith}
use lib.ListN.{length, get_or, drop}
use borrow.Author.Tests.{ne_eqb}
use Rattle.laws.specs.Choice.{between}
use Rattle.laws.specs.Members.{Among}
use Rattle.laws.proofs.Members.{among_drop}
use Rattle.laws.proofs.Tests.{or-true}
use Rattle.laws.proofs.Ranges.{in_between}
use Rattle.paper_nests.specs.declared.Dependence as DE
use Rattle.paper_nests.specs.declared.Nest as DN
use Rattle.paper_nests.specs.Kinds.{INDEPENDENT}
use Rattle.paper_nests.specs.Nests.{Dep}
use Rattle.paper_nests.specs.Loops.{end_of}
use Rattle.paper_nests.specs.Gaps.{has_gap}
use Rattle.paper_nests.specs.Valid.{is_shape}
use Rattle.paper_nests.specs.Stored.{dep_in, nest_in}
use Rattle.paper_nests.proofs.Deps.{Back, Fits, deps_fit, is-line, is-back, line_gap, back_gap, valid_is}
use Rattle.paper_nests.proofs.Loops.{end_there}
use Rattle.paper_nests.proofs.Stored.{deps_in_at, counted_many}
use Rattle.paper_gaps.specs.Lies.{WithEnds, LiesTo, EndsIn}

-- the gaps of a dependence are gaps of the nest
pub gap_inside
    : (ps : List ℕ) (e : Dep) (g : ℕ)
    → is_shape ps ≡ true
    → Fits ps e
    → has_gap ps e g ≡ true
    → (0 < g) × (g < length ps)
gap_inside ps e g shape (inl l) h =
    let q = line_gap ps e g l.kind_is h in
    (omega (arith, q.0), omega (arith, q.1, l.target_there))
gap_inside ps e g shape (inr b) h =
    let end = end_there ps shape e.d b.loop in
    ⊎_elim
    (λ (z : (e.d < g) × (g ≤ e.t)). (omega (arith, z.0), omega (arith, z.1, b.target_before)))
    (λ (z : (e.s < g) × (g ≤ end_of ps e.d)). (omega (arith, z.0), omega (arith, z.1)))
    (back_gap ps e g b.kind_is h)

-- the gaps of a carried dependence, before its target or behind its source
module _ (ps : List ℕ) (e : DE.Dependence) (end : ℕ) (ends : EndsIn ps e end) (kind : e.kind ≡ INDEPENDENT → ⊥) where
  pub ring_gaps : (g : ℕ) → has_gap ps (dep_in e) g ≡ (between (suc e.d) g e.t || between (suc e.s) g end)
  ring_gaps g = rw (ne_eqb e.kind INDEPENDENT kind, ← ends kind)

  pub of_ring : (g : ℕ) → has_gap ps (dep_in e) g ≡ true → ((e.d < g) × (g ≤ e.t)) ⊎ ((e.s < g) × (g ≤ end))
  of_ring g h =
      ⊎_elim
      (λ (z : between (suc e.d) g e.t ≡ true). inl (in_between (suc e.d) g e.t z))
      (λ (z : between (suc e.s) g end ≡ true). inr (in_between (suc e.s) g end z))
      (or-true (between (suc e.d) g e.t) (between (suc e.s) g end) (sym (ring_gaps g) ∙ h))

-- dependence i as the code reads it
abbrev pub dep_at : DN.Nest → ℕ → DE.Dependence
dep_at n i = get_or n.deps i (record { kind = 0; d = 0; s = 0; t = 0 })

module _ {nest : DN.Nest} {ends : List ℕ} (w : WithEnds nest ends) {i : ℕ} (there : i < nest.many) where
  pub found_at
      : drop i (nest_in nest).deps ≡ dep_in (dep_at nest i) ∷ drop (suc i) (nest_in nest).deps
  found_at =
      deps_in_at nest.many nest.deps i (record { kind = 0; d = 0; s = 0; t = 0 }) there
      (counted_many nest w.counted)

  pub found_among : Among (dep_in (dep_at nest i)) (nest_in nest).deps
  found_among =
      among_drop (dep_in (dep_at nest i)) (nest_in nest).deps (drop (suc i) (nest_in nest).deps) i found_at

  pub found_fits : Fits (nest_in nest).points (dep_in (dep_at nest i))
  found_fits =
      deps_fit (nest_in nest).points (nest_in nest).deps (valid_is (nest_in nest) w.valid).all-deps
      (dep_in (dep_at nest i))
      found_among

  -- a carried one
  back : ((dep_at nest i).kind ≡ INDEPENDENT → ⊥) → Back (nest_in nest).points (dep_in (dep_at nest i))
  back = is-back (nest_in nest).points (dep_in (dep_at nest i)) found_fits

  pub found_ends : EndsIn (nest_in nest).points (dep_at nest i) (get_or ends (dep_at nest i).d 0)
  found_ends k = w.ends_are (dep_at nest i).d (back k).loop

  pub found_lies : LiesTo (dep_at nest i) (get_or ends (dep_at nest i).d 0)
  found_lies =
      let v = valid_is (nest_in nest) w.valid in
      record {
        forward = λ k. (is-line (nest_in nest).points (dep_in (dep_at nest i)) found_fits k).forward;
        target_after = λ k. (back k).target_after;
        target_before = λ k. omega (arith, found_ends k, (back k).target_before);
        source_before = λ k. omega (arith, found_ends k, (back k).source_before);
        inside =
            λ k.
            omega (
              arith,
              found_ends k,
              end_there (nest_in nest).points v.shape (dep_at nest i).d (back k).loop,
              v.few_points,
            );
      }
