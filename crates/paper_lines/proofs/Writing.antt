-- Text written into a lent buffer, byte by byte and frame by frame.
-- Main statements: `text-length`, `over_next`, `over-frame`, `over_part`.
use mathlib.Core.Path.{◌≡◌, refl, sym, ◌∙◌, ap}
use mathlib.Core.List.{List, [], ◌∷◌, ◌++◌, append_assoc, append-nil}
use Prim.Native.Nat.{ℕ, suc, ◌+◌, ◌-◌, ◌*◌, ◌/◌, ◌%◌, ◌≤◌, ◌<◌}
use native.Mathlib.Numerals.{add-one}
use native.Mathlib.Omega.{arith}
use lib.ListN.{length, get_or, take, drop, set, length-append, length-drop, drop_of_length-le}
use lib.Seq.{drop-cons, set_at, append_snoc, take-suc, take_at, drop_at, length-take-le, take_all, drop-drop}
use borrow.Rule.Slice.PartMut.{mid_of, put_mid}
use Rattle.paper_lines.specs.Lines.{FEED, digit_of, digits_of, line_text}
use Rattle.paper_lines.specs.Writing.{over}
use Rattle.paper_lines.proofs.Spelling.{digits_length}

-- two digits a byte, then the 0a
pub text-length : (f : List ℕ) → length (line_text f) ≡ 2 * length f + 1
text-length f = length-append (digits_of f) (FEED ∷ []) ∙ ap (λ (n : ℕ). n + 1) (digits_length f)

digits_append : (f g : List ℕ) → digits_of (f ++ g) ≡ digits_of f ++ digits_of g
digits_append [] g = refl
digits_append (b ∷ f) g =
    ap (λ (l : List ℕ). digit_of (b / 16) ∷ (digit_of (b % 16) ∷ l)) (digits_append f g)

-- one byte more
pub over_length : (xs ys : List ℕ) → length xs ≤ length ys → length (over xs ys) ≡ length ys
over_length xs ys h =
    length-append xs (drop (length xs) ys) ∙ ap (λ (n : ℕ). length xs + n) (length-drop (length xs) ys) ∙ omega arith

pub over_next
    : (xs ys : List ℕ) (n b : ℕ)
    → length xs ≡ n
    → n < length ys
    → set (over xs ys) n b ≡ over (xs ++ (b ∷ [])) ys
over_next xs ys n b e h =
    let z : suc n ≡ length (xs ++ (b ∷ [])) = omega (arith, length-append xs (b ∷ [])) in
    ap (λ (m : ℕ). set (xs ++ drop m ys) n b) e
    ∙ ap (λ (l : List ℕ). set (xs ++ l) n b) (drop-cons ys n 0 h)
    ∙ set_at xs (get_or ys n 0) (drop (suc n) ys) b n e
    ∙ sym (append_snoc xs b (drop (suc n) ys))
    ∙ ap (λ (m : ℕ). (xs ++ (b ∷ [])) ++ drop m ys) z

-- a frame, byte by byte
module _
    (f o out : List ℕ)
    (i : ℕ)
    (fits : length (line_text f) ≤ length o)
    (now : out ≡ over (digits_of (take i f)) o)
  where
    written : i ≤ length f → length (digits_of (take i f)) ≡ 2 * i
    written h = digits_length (take i f) ∙ ap (λ (n : ℕ). 2 * n) (length-take-le i f h)

    pub byte_on
        : (p q : ℕ)
        → p ≡ digit_of (get_or f i 0 / 16)
        → q ≡ digit_of (get_or f i 0 % 16)
        → i < length f
        → set (set out (2 * i) p) (2 * i + 1) q ≡ over (digits_of (take (i + 1) f)) o
    byte_on p q ep eq h =
        let xs = digits_of (take i f) in
        let long : length xs ≡ 2 * i = written (omega arith) in
        let longer : length (xs ++ (p ∷ [])) ≡ 2 * i + 1 = omega (arith, length-append xs (p ∷ [])) in
        let pair : digits_of (get_or f i 0 ∷ []) ≡ p ∷ (q ∷ []) = rw (ep, eq) in
        let more : digits_of (take (i + 1) f) ≡ (xs ++ (p ∷ [])) ++ (q ∷ []) =
        ap (λ (n : ℕ). digits_of (take n f)) (add-one i)
        ∙ ap digits_of (take-suc f i 0 h)
        ∙ digits_append (take i f) (get_or f i 0 ∷ [])
        ∙ ap (λ (r : List ℕ). xs ++ r) pair
        ∙ sym (append_assoc xs (p ∷ []) (q ∷ [])) in
        ap (λ (l : List ℕ). set (set l (2 * i) p) (2 * i + 1) q) now
        ∙ ap (λ (l : List ℕ). set l (2 * i + 1) q) (over_next xs o (2 * i) p long (omega (arith, text-length f)))
        ∙ over_next (xs ++ (p ∷ [])) o (2 * i + 1) q longer (omega (arith, text-length f))
        ∙ ap (λ (l : List ℕ). over l o) (sym more)

    pub feed_on : i ≡ length f → set out (2 * i) FEED ≡ over (line_text f) o
    feed_on h =
        ap (λ (l : List ℕ). set l (2 * i) FEED) now
        ∙ over_next (digits_of (take i f)) o (2 * i) FEED (written (omega arith)) (omega (arith, text-length f))
        ∙ ap (λ (l : List ℕ). over (digits_of l ++ (FEED ∷ [])) o) (take_all i f (omega arith))

-- a text written into the part that starts where the text before it ended
pub over_part
    : (out o xs t p : List ℕ) (at : ℕ)
    → out ≡ over xs o
    → at ≡ length xs
    → at + length t ≤ length o
    → p ≡ over t (mid_of at (length out - at) out)
    → put_mid at (length out - at) out p ≡ over (xs ++ t) o
over_part out o xs t p at e l h q =
    let front : take at out ≡ xs = ap (take at) e ∙ take_at xs (drop (length xs) o) at (sym l) in
    let back : drop at out ≡ drop at o =
    ap (drop at) e ∙ drop_at xs (drop (length xs) o) at (sym l) ∙ ap (λ (n : ℕ). drop n o) (sym l) in
    let part : mid_of at (length out - at) out ≡ drop at o =
    take_all (length out - at) (drop at out) (omega (arith, length-drop at out)) ∙ back in
    let past : drop (length out - at) (drop at out) ≡ [] =
    drop_of_length-le (drop at out) {i = length out - at} (omega (arith, length-drop at out)) in
    let new : p ≡ t ++ drop (at + length t) o =
    q ∙ ap (over t) part ∙ ap (λ (r : List ℕ). t ++ r) (drop-drop (length t) at o) in
    let long : at + length t ≡ length (xs ++ t) = omega (arith, length-append xs t) in
    ap (λ (r : List ℕ). r ++ (p ++ drop (length out - at) (drop at out))) front
    ∙ ap (λ (r : List ℕ). xs ++ (p ++ r)) past
    ∙ ap (λ (r : List ℕ). xs ++ r) (append-nil p ∙ new)
    ∙ sym (append_assoc xs t (drop (at + length t) o))
    ∙ ap (λ (n : ℕ). (xs ++ t) ++ drop n o) long
