-- Which gaps are barred decides the textbook's placement, not how they are listed.
-- Main statement: `textbook_alike`.
use mathlib.Core.Path.{◌≡◌, refl, ap, ◌∙◌}
use mathlib.Core.Bool.{true}
use mathlib.Core.List.{List, [], ◌∷◌}
use Prim.Native.Nat.{ℕ, suc, ◌-◌, ◌≤◌, ◌<◌}
use native.Mathlib.Omega.{arith}
use lib.ListN.{length}
use Rattle.laws.specs.Choice.{is_in}
use Rattle.laws.proofs.Members.{in_here, in_later}
use Rattle.paper_nests.specs.Nests.{Dep}
use Rattle.paper_placements.specs.Words.{gaps_of}
use Rattle.paper_placements.proofs.Words.{gaps_of_same}
use Rattle.paper_placements.specs.Placements.{is_free}
use Rattle.call_textbook.specs.Tries.{line_after, lacking, cuts_on, rising, try_at, smaller, best_from, best_of, textbook_of}
use Rattle.call_textbook.proofs.Tried.{tried_is}

-- the same results, the same best
best_alike
    : (f h : ℕ → List ℕ) (best gs : List ℕ) → ((g : ℕ) → is_in g gs ≡ true → f g ≡ h g)
    → best_from f best gs ≡ best_from h best gs
unfolding best_from
best_alike f h best [] e = refl
best_alike f h best (g ∷ gs) e =
    ap (λ (r : List ℕ). best_from f (smaller best r) gs) (e g (in_here g gs)) ∙
    best_alike f h (smaller best (h g)) gs (λ i k. e i (in_later i g gs k))

module _ (ps xs ys : List ℕ) (same : (i : ℕ) → 0 < i → i ≤ length ps - 1 → is_free xs i ≡ is_free ys i) where
  line_alike : (g : ℕ) → 0 < g → g ≤ length ps - 1 → line_after ps xs g ≡ line_after ps ys g
  line_alike g f l =
      rw (
        gaps_of_same (is_free xs) (is_free ys) (length ps - suc g) (suc g) (λ i a b. same i (omega arith) (omega arith)),
        gaps_of_same (is_free xs) (is_free ys) (g - 1) 1 (λ i a b. same i (omega arith) (omega arith)),
      )

  try_alike : (ds : List Dep) (g : ℕ) → 0 < g → g ≤ length ps - 1 → try_at ps xs ds g ≡ try_at ps ys ds g
  unfolding try_at
  try_alike ds g f l = ap (λ (hs : List ℕ). rising (g ∷ cuts_on ps hs (lacking ps g ds))) (line_alike g f l)

  tried_alike : gaps_of (is_free xs) (length ps - 1) 1 ≡ gaps_of (is_free ys) (length ps - 1) 1
  tried_alike = gaps_of_same (is_free xs) (is_free ys) (length ps - 1) 1 (λ i a b. same i (omega arith) (omega arith))

  pub textbook_alike : (ds : List Dep) → textbook_of ps xs ds ≡ textbook_of ps ys ds
  textbook_alike [] = refl
  textbook_alike (e ∷ es) =
      ap (best_of (try_at ps xs (e ∷ es))) tried_alike ∙
      go (gaps_of (is_free ys) (length ps - 1) 1)
      (λ g h. let t = tried_is ys (length ps - 1) g h in try_alike (e ∷ es) g t.first t.inside)
    where
      go
          : (gs : List ℕ) → ((g : ℕ) → is_in g gs ≡ true → try_at ps xs (e ∷ es) g ≡ try_at ps ys (e ∷ es) g)
          → best_of (try_at ps xs (e ∷ es)) gs ≡ best_of (try_at ps ys (e ∷ es)) gs
      go [] t = refl
      go (g ∷ gs) t =
          ap (λ (r : List ℕ). best_from (try_at ps xs (e ∷ es)) r gs) (t g (in_here g gs)) ∙
          best_alike (try_at ps xs (e ∷ es)) (try_at ps ys (e ∷ es)) (try_at ps ys (e ∷ es) g) gs
          (λ i k. t i (in_later i g gs k))
