-- The pass over the table makes the cuts of the rule: at an unbarred place some dependence that is left ends exactly if
-- the latest start there lies behind the last cut.
-- Main statements: `same_end`, `same_cuts`, `try_is_cuts`.
use mathlib.Core.Path.{◌≡◌, refl, sym, ap, ◌∙◌}
use mathlib.Core.Bool.{Bool, true, false}
use mathlib.Core.List.{List, ◌∷◌}
use mathlib.Core.Logic.{inl}
use Prim.Native.Nat.{ℕ, zero, suc, ◌+◌, ◌-◌, ◌≤◌, ◌<◌}
use native.Mathlib.Omega.{arith}
use lib.Dec.{ltb}
use lib.ListN.{length}
use borrow.Author.Tests.{ltb-true, lt-ltb, le-ltb}
use Rattle.laws.specs.Choice.{pick}
use Rattle.laws.specs.Members.{Among}
use Rattle.laws.proofs.Ranges.{in_between, between_in}
use Rattle.laws.proofs.Tests.{never_both, bool_by, le_by, lt_by}
use Rattle.paper_nests.specs.Nests.{Dep}
use Rattle.paper_nests.specs.Gaps.{has_gap}
use Rattle.paper_placements.specs.Words.{kept}
use Rattle.paper_placements.specs.Placements.{is_free}
use Rattle.call_textbook.specs.Places.{gap_at, gaps_at, last_free, latest_of, cut_places, places_behind}
use Rattle.call_textbook.specs.Tries.{lacking, some_ends, cuts_on, rising, try_at}
use Rattle.call_textbook.proofs.Greedy.{lacking_in, in_lacking, some_end, end_some}
use Rattle.call_textbook.proofs.Places.{gap_low, Span, Stretch, stretch, outside}
use Rattle.call_textbook.proofs.Lines.{line_from}
use Rattle.call_textbook.proofs.Results.{try_is}
use Rattle.call_textbook.proofs.Tried.{Tried}
use Rattle.call_textbook.proofs.Endings.{ends_start, start_ends, start_free, latest_some, latest_most}

module _
    (ps bs : List ℕ) (m : ℕ) (ds : List Dep) (spans : (e : Dep) → Among e ds → Span m ps e)
    (g : ℕ) (first : 0 < g) (inside : g ≤ m) (free_g : is_free bs g ≡ true)
  where
    abbrev latest : ℕ → ℕ
    latest = latest_of (last_free bs m) m ds

    -- the dependences left after a cut at `last`: they lack g and that gap, and all that start behind it are there
    record Left (last : ℕ) (es : List Dep) : Type 0 where
      known : (e : Dep) → Among e es → Among e ds
      lacks : (e : Dep) → Among e es → has_gap ps e g ≡ false
      uncut : (e : Dep) → Among e es → has_gap ps e (gap_at m last) ≡ false
      later : (e : Dep) → Among e ds → has_gap ps e g ≡ false → (y : Stretch m ps e g) → last < y.lo → Among e es

    left_first : Left g (lacking ps g ds)
    left_first =
        record {
          known = λ e a. (lacking_in ps g ds e a).0;
          lacks = λ e a. (lacking_in ps g ds e a).1;
          uncut = λ e a. ap (has_gap ps e) (gap_low m g inside) ∙ (lacking_in ps g ds e a).1;
          later = λ e a l y h. in_lacking ps g ds e a l;
        }

    left_cut
        : (last p : ℕ) (es : List Dep) → g < p → p < g + m → last < p → Left last es
        → Left p (lacking ps (gap_at m p) es)
    left_cut last p es f l h r =
        record {
          known = λ e a. r.known e (lacking_in ps (gap_at m p) es e a).0;
          lacks = λ e a. r.lacks e (lacking_in ps (gap_at m p) es e a).0;
          uncut = λ e a. (lacking_in ps (gap_at m p) es e a).1;
          later = λ e a n y b.
              in_lacking ps (gap_at m p) es e (r.later e a n y (omega arith))
              (y.has p f l ∙ outside y.lo p y.hi (inl b));
        }

    module _ (k p last : ℕ) (es : List Dep) (low : g ≤ last) (high : last < p) (to_end : suc p + k ≡ g + m) where
      same_end
          : Left last es → is_free bs (gap_at m p) ≡ true
          → some_ends ps (gap_at m p) (line_from bs m k (suc p)) es ≡ ltb last (latest p)
      same_end r free =
          bool_by (some_ends ps (gap_at m p) (line_from bs m k (suc p)) es) (ltb last (latest p)) there back
        where
          there : some_ends ps (gap_at m p) (line_from bs m k (suc p)) es ≡ true → ltb last (latest p) ≡ true
          there h =
              let n = some_end ps (gap_at m p) (line_from bs m k (suc p)) es h in
              let e = n.dependence in
              let a = r.known e n.there in
              let x = spans e a in
              let y = stretch m ps e x g first inside (r.lacks e n.there) in
              let s = ends_start ps bs m e x g first inside free_g k p (omega arith) to_end y free n.its n.last in
              let has = in_between y.lo p y.hi (sym (y.has p (omega arith) (omega arith)) ∙ n.its) in
              let behind : last < y.lo =
              lt_by (λ z.
              let within = between_in y.lo last y.hi z (omega (arith, has.1)) in
              never_both
              (y.has last (omega (arith, y.after)) (omega arith) ∙ within)
              (r.uncut e n.there)) in
              lt-ltb last (latest p) (omega (arith, s, latest_most (last_free bs m) m ds p e a))

          back : ltb last (latest p) ≡ true → some_ends ps (gap_at m p) (line_from bs m k (suc p)) es ≡ true
          back h =
              let n = latest_some (last_free bs m) m ds p last (ltb-true last (latest p) h) in
              let e = n.dependence in
              let x = spans e n.there in
              let z =
              start_ends ps bs m e x g first inside free_g k p (omega arith) to_end last low (omega arith)
              n.behind in
              end_some ps (gap_at m p) (line_from bs m k (suc p)) es
              (record {
                dependence = e;
                there = r.later e n.there z.lacks z.run z.starts;
                its = z.its;
                last = z.done;
              })

      -- at a barred place none ends
      barred_passed : is_free bs (gap_at m p) ≡ false → ltb last (latest p) ≡ false
      barred_passed b =
          le-ltb last (latest p)
          (le_by (λ z.
          let n = latest_some (last_free bs m) m ds p last z in
          let x = spans n.dependence n.there in
          never_both
          (start_free ps bs m n.dependence x g first inside free_g p last (omega arith) n.behind)
          b))

    -- the k places from p on have the same cuts
    abbrev SameCuts : ℕ → ℕ → Type 0
    SameCuts k p =
        (last : ℕ) (es : List Dep) → g ≤ last → last < p → p + k ≡ g + m → Left last es
        → cuts_on ps (line_from bs m k p) es ≡ gaps_at m (cut_places latest last k p)

    same_cuts : (k p : ℕ) → SameCuts k p
    unfolding cuts_on line_from cut_places
    same_cuts zero p last es low high end r = refl
    same_cuts (suc k) p last es low high end r = by_gap (is_free bs (gap_at m p)) refl (same_cuts k (suc p))
      where
        by_test
            : (t : Bool) → some_ends ps (gap_at m p) (line_from bs m k (suc p)) es ≡ t → ltb last (latest p) ≡ t
            → SameCuts k (suc p)
            → kept t (gap_at m p) (cuts_on ps (line_from bs m k (suc p)) (pick t (lacking ps (gap_at m p) es) es)) ≡
            gaps_at m (kept t p (cut_places latest (pick t p last) k (suc p)))
        by_test true a c rest =
            ap (λ (hs : List ℕ). gap_at m p ∷ hs)
            (rest p (lacking ps (gap_at m p) es) (omega arith) (omega arith) (omega arith)
            (left_cut last p es (omega arith) (omega arith) high r))
        by_test false a c rest = rest last es low (omega arith) (omega arith) r

        by_gap
            : (f : Bool) → is_free bs (gap_at m p) ≡ f → SameCuts k (suc p)
            → cuts_on ps (kept f (gap_at m p) (line_from bs m k (suc p))) es ≡
            gaps_at m (kept (ltb last (latest p)) p (cut_places latest (pick (ltb last (latest p)) p last) k (suc p)))
        by_gap true f rest =
            let e = same_end k p last es low high (omega arith) r f in
            rw e (by_test (ltb last (latest p)) e refl rest)
        by_gap false f rest =
            rw (barred_passed k p last es low high (omega arith) f) (rest last es low (omega arith) (omega arith) r)

-- what a first barrier gives, by the table
pub try_is_cuts
    : (ps bs : List ℕ) (ds : List Dep) (m : ℕ) → m ≡ length ps - 1 → ((e : Dep) → Among e ds → Span m ps e)
    → (g : ℕ) → Tried bs m g
    → try_at ps bs ds g ≡ rising (g ∷ gaps_at m (places_behind (latest_of (last_free bs m) m ds) m g))
try_is_cuts ps bs ds m m_is spans g t =
    try_is ps bs ds m m_is g t ∙
    ap (λ (hs : List ℕ). rising (g ∷ hs))
    (same_cuts ps bs m ds spans g t.first t.inside t.free (m - 1) (suc g) g (lacking ps g ds) (omega arith)
    (omega arith)
    (omega (arith, t.first, t.inside))
    (left_first ps bs m ds spans g t.first t.inside t.free))
