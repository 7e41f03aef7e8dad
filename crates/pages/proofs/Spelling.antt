-- The page's lines are the texts of frames.
-- Main statements: `lines_made`, `lines_are`.
use mathlib.Core.Path.{◌≡◌, refl, ap, subst}
use mathlib.Core.Bool.{Bool, true, false, ◌&&◌}
use mathlib.Core.List.{List, [], ◌∷◌}
use Prim.Native.Nat.{ℕ, suc, ◌+◌, ◌*◌, ◌-◌, ◌/◌, ◌%◌, ◌<◌}
use native.Mathlib.Omega.{arith}
use lib.Dec.{ltb, leb}
use lib.ListN.{length}
use borrow.Author.Tests.{ltb-true, ltb-false, lt-ltb, le-ltb, le-leb}
use Rattle.laws.specs.Choice.{pick}
use Rattle.laws.proofs.Tests.{never, and_true, and_intro}
use Rattle.paper_lines.specs.Lines.{digit_of, line_text}
use Rattle.paper_lines.proofs.Spelling.{are_bytes, frames_text, are_frames}
use Rattle.pages.specs.Demands.{Digit, Line, Lines}

digit_made : (v : ℕ) → v < 16 → Digit (digit_of v) v
digit_made v h = go (ltb v 10) refl
  where
    go : (t : Bool) → ltb v 10 ≡ t → Digit (pick t (48 + v) (87 + v)) v
    go true e = Digit.to9 (ltb-true v 10 e)
    go false e =
        let l = ltb-false v 10 e in
        let a : 97 + (v - 10) ≡ 87 + v = omega arith in
        let b : 10 + (v - 10) ≡ v = omega arith in
        subst (λ (x : ℕ). Digit (87 + v) x) b
        (subst (λ (x : ℕ). Digit x (10 + (v - 10))) a (Digit.a_f (omega arith)))

digit_is : (c v : ℕ) → Digit c v → (c ≡ digit_of v) × (v < 16)
digit_is c v (Digit.to9 h) = (rw (lt-ltb v 10 h), omega arith)
digit_is c v (Digit.a_f {v = w} h) = (rw (le-ltb (10 + w) 10 (omega arith)) (omega arith), omega arith)

pub line_made : (f : List ℕ) → are_bytes f ≡ true → Line (line_text f) f
line_made [] h = Line.feed
line_made (b ∷ f) h =
    let z = and_true (ltb b 256) (are_bytes f) h in
    let l = ltb-true b 256 z.0 in
    let q : 16 * (b / 16) + b % 16 ≡ b = omega arith in
    subst (λ (x : ℕ). Line (line_text (b ∷ f)) (x ∷ f)) q
    (Line.byte (digit_made (b / 16) (omega arith)) (digit_made (b % 16) (omega arith)) (line_made f z.1))

pub line_is : (s f : List ℕ) → Line s f → (s ≡ line_text f) × (are_bytes f ≡ true)
line_is s f Line.feed = (refl, refl)
line_is s f (Line.byte {c = c} {b = b} {v = v} {w = w} {s = t} {f = g} x y r) =
    let i = digit_is c v x in
    let j = digit_is b w y in
    let k = line_is t g r in
    let high : (16 * v + w) / 16 ≡ v = omega (arith, i.1, j.1) in
    let low : (16 * v + w) % 16 ≡ w = omega (arith, i.1, j.1) in
    let e : line_text ((16 * v + w) ∷ g) ≡ digit_of v ∷ (digit_of w ∷ line_text g) =
    cc (ap digit_of high, ap digit_of low) in
    (cc (e, i.0, j.0, k.0), and_intro (lt-ltb (16 * v + w) 256 (omega (arith, i.1, j.1))) k.1)

pub lines_made : (fs : List (List ℕ)) → are_frames fs ≡ true → Lines (frames_text fs) fs
lines_made [] h = Lines.none
lines_made ([] ∷ fs) h = never (and_true (leb 1 0 && true) (are_frames fs) h).0
lines_made ((b ∷ f) ∷ fs) h =
    let a = and_true (leb 1 (suc (length f)) && are_bytes (b ∷ f)) (are_frames fs) h in
    let c = and_true (leb 1 (suc (length f))) (are_bytes (b ∷ f)) a.0 in
    Lines.line (line_made (b ∷ f) c.1) (lines_made fs a.1)

pub lines_are : (s : List ℕ) (fs : List (List ℕ)) → Lines s fs → (s ≡ frames_text fs) × (are_frames fs ≡ true)
lines_are s fs Lines.none = (refl, refl)
lines_are s fs (Lines.line {s = t} {t = u} {f = f} {b = b} {fs = gs} x r) =
    let i = line_is t (b ∷ f) x in
    let k = lines_are u gs r in
    (cc (i.0, k.0), and_intro (and_intro (le-leb 1 (suc (length f)) (omega arith)) i.1) k.1)
