-- Texts that are added to a buffer one after the other, and the lines of claims and steps.
-- Main statements: `added_none`, `added_then`, `added_all`, `line_left`, `line_put`, `claim-frame`, `by_frame`.
use mathlib.Core.Path.{◌≡◌, refl, sym, ◌∙◌, ap}
use mathlib.Core.List.{List, [], ◌∷◌, ◌++◌, append_assoc, append-nil}
use Prim.Native.Nat.{ℕ, zero, suc, ◌+◌, ◌-◌, ◌*◌, ◌/◌, ◌%◌, ◌≤◌, ◌<◌}
use native.Mathlib.Omega.{arith}
use lib.ListN.{length, length-append}
use borrow.Rule.Slice.PartMut.{mid_of, put_mid}
use Rattle.paper_lines.specs.Lines.{line_text}
use Rattle.paper_lines.specs.Writing.{over}
use Rattle.paper_lines.proofs.Writing.{text-length, over_part}
use Rattle.argue_texts.specs.ArgumentTexts.{CLAIM, BY, by_text}
use Rattle.argue_spell.specs.Added.{WORD, Added}

pub added_none : (at : ℕ) (out : List ℕ) → Added [] at out out at
added_none at out =
    record {
      next_is = omega arith;
      size = refl;
      written = λ done first e l h m. h m ∙ ap (λ (x : List ℕ). over x first) (sym (append-nil done));
    }

pub added_then : {t u : List ℕ} {at mid next : ℕ} {out out₁ out₂ : List ℕ} → Added t at out out₁ mid →
    Added u mid out₁ out₂ next → Added (t ++ u) at out out₂ next
added_then {t} {u} {at} {mid} {next} {out} {out₁} {out₂} a b =
    record {
      next_is = omega (arith, a.next_is, b.next_is, length-append t u);
      size = b.size ∙ a.size;
      written = λ done first e l h m.
          b.written (done ++ t) first (omega (arith, a.next_is, length-append done t)) (l ∙ sym a.size)
          (λ k. a.written done first e l h (omega (arith, a.size))) (omega (arith, a.size)) ∙
          ap (λ (x : List ℕ). over x first) (append_assoc done t u);
    }

-- the same text in other words
pub added_as : {t u : List ℕ} {at next : ℕ} {out out' : List ℕ} → t ≡ u → Added t at out out' next →
    Added u at out out' next
added_as e a = rw (← e) a

-- all of a text, from the start
pub added_all : {t : List ℕ} {next : ℕ} {out out' : List ℕ} → Added t 0 out out' next → next ≤ length out →
    out' ≡ over t out
added_all {out = out} a m = a.written [] out refl refl (λ k. refl) m

-- a line for which there is no room
pub line_left : (f : List ℕ) (at : ℕ) (out : List ℕ) → length out < at + (2 * length f + 1) →
    Added (line_text f) at out out (at + (2 * length f + 1))
line_left f at out h =
    record {
      next_is = omega (arith, text-length f);
      size = refl;
      written = λ done first e l k m. absurd (omega arith);
    }

-- one for which there is
pub line_put : (f : List ℕ) (at r : ℕ) (out p : List ℕ) → at + (2 * length f + 1) ≤ length out →
    r ≡ length (line_text f) → p ≡ over (line_text f) (mid_of at (length out - at) out) →
    length (put_mid at (length out - at) out p) ≡ length out →
    Added (line_text f) at out (put_mid at (length out - at) out p) (at + r)
line_put f at r out p h e w s =
    record {
      next_is = omega arith;
      size = s;
      written = λ done first i l k m.
          over_part out first done (line_text f) p at (k (omega arith)) (sym i) (omega (arith, text-length f)) w;
    }

-- ---- frames

-- numbers below 256 are bytes
pub claim-frame : (d a b : ℕ) → d < 256 → a < 256 → b < 256 →
    CLAIM ∷ (d % 256 ∷ (a % 256 ∷ (b % 256 ∷ []))) ≡ CLAIM ∷ (d ∷ (a ∷ (b ∷ [])))
claim-frame d a b x y z =
    let u : d % 256 ≡ d = omega arith in
    let v : a % 256 ≡ a = omega arith in
    let w : b % 256 ≡ b = omega arith in
    rw (u, v, w)

-- a number below 65,536 in two bytes
halves : (m : ℕ) → m < 65536 → m / 256 % 256 ≡ m / 256
halves m h = omega arith

pub by_frame : (v : ℕ) → (v ≡ 0 → ⊥) → v ≤ WORD →
    by_text v ≡ line_text (BY ∷ ((v - 1) / 256 % 256 ∷ ((v - 1) % 256 ∷ [])))
by_frame zero n h = absurd (n refl)
by_frame (suc m) n h =
    let z : suc m - 1 ≡ m = omega arith in
    rw (z, halves m (omega arith))
