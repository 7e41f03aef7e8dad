-- Lines read one at a time: the first line of a text, and what an answer of the reader tells its caller.
-- Main statements: `lines_first`, `no_line`, `bad_line`, `good_line`.
use mathlib.Core.Path.{◌≡◌, refl, sym, ◌∙◌, ap}
use Rattle.std.proofs.Common.{Some, None, Ok, Err}
use mathlib.Core.Bool.{Bool, true, false, ◌||◌, cond}
use mathlib.Core.List.{List, [], ◌∷◌}
use mathlib.Core.Logic.{⊎_elim}
use Prim.Native.Nat.{ℕ, suc, ◌+◌, ◌-◌, ◌/◌, ◌%◌, ◌≤◌, ◌<◌}
use native.Mathlib.Numerals.{add-one}
use native.Mathlib.Omega.{arith}
use lib.Dec.{eqb, leb, ltb, leb-suc-suc}
use lib.ListN.{length, get_or, take, drop, length-take, length-drop, drop_of_length-le}
use lib.Seq.{drop-cons, drop-drop, get_or-drop}
use Rattle.std.specs.List.{take_while}
use Rattle.std.proofs.lemmas.List.Sums.{take_while-cons}
use borrow.Author.Rules.{part_to_end}
use borrow.Author.Tests.{eq-eqb, ne_eqb, lt-ltb, le-ltb, ltb-true}
use Rattle.laws.specs.Choice.{pick}
use Rattle.laws.proofs.Tests.{le_or, and_true}
use Rattle.laws.proofs.Connectives.{and_off}
use Rattle.paper_lines.specs.declared.Frame.{Frame}
use Rattle.paper_refusals.specs.declared.Refusal.{Refusal}
use Rattle.paper_refusals.specs.declared.Refusal.TheVariants.{NoFrame}
use Rattle.paper_refusals.specs.Numbers.{number_of}
use Rattle.paper_lines.specs.Lines.{FEED, Line, line, push, lines_of, is_hex, all_hex, is_good, is_digits, frame_of}
use Rattle.paper_lines.specs.Reading.{take_line, take_digits, has_feed, frame, IsFrame, answer_of, line_at}
use Rattle.paper_lines.proofs.Digits.{digits_parts, frame_length}

-- the lines of a text without its first
rest_of : List ℕ → List Line
rest_of s = lines_of (drop (suc (length (take_line s))) s)

-- the first line of a text with a byte in front, and the rest
push_first : (b : ℕ) (s : List ℕ) → push b (lines_of s) ≡ line (b ∷ take_line s) (has_feed s) ∷ rest_of s
unfolding lines_of take_line has_feed rest_of
push_first b [] = refl
push_first b (x ∷ s) = go (eqb x FEED) (push_first x s)
  where
    go
        : (t : Bool)
        → push x (lines_of s) ≡ line (x ∷ take_line s) (has_feed s) ∷ rest_of s
        → push b (pick t (line [] true ∷ lines_of s) (push x (lines_of s)))
        ≡ line (b ∷ pick t [] (x ∷ take_line s)) (t || has_feed s)
        ∷ lines_of (drop (length (pick t [] (x ∷ take_line s))) s)
    go true h = refl
    go false h = rw h

-- of a text with a byte, the first line is what stands before its first 0a, ended if there is one
pub lines_first
    : (s : List ℕ)
    → 0 < length s
    → lines_of s ≡ line (take_line s) (has_feed s) ∷ lines_of (drop (suc (length (take_line s))) s)
unfolding lines_of take_line has_feed rest_of
lines_first [] h = absurd (omega arith)
lines_first (b ∷ s) h = go (eqb b FEED) (push_first b s)
  where
    go
        : (t : Bool)
        → push b (lines_of s) ≡ line (b ∷ take_line s) (has_feed s) ∷ rest_of s
        → pick t (line [] true ∷ lines_of s) (push b (lines_of s))
        ≡ line (pick t [] (b ∷ take_line s)) (t || has_feed s) ∷ lines_of (drop (length (pick t [] (b ∷ take_line s))) s)
    go true e = refl
    go false e = e

-- the digits are a front of the text
digits_front : (s : List ℕ) → take_digits s ≡ take (length (take_digits s)) s
unfolding take_digits
digits_front [] = refl
digits_front (b ∷ s) = go (is_hex b) (digits_front s)
  where
    go : (t : Bool) → take_digits s ≡ take (length (take_digits s)) s
        → pick t (b ∷ take_digits s) [] ≡ take (length (pick t (b ∷ take_digits s) [])) (b ∷ s)
    go true e = ap (λ (l : List ℕ). b ∷ l) e
    go false e = refl

-- and no longer than it
pub digits_fit : (s : List ℕ) → length (take_digits s) ≤ length s
digits_fit s = omega (arith, ap length (digits_front s), length-take (length (take_digits s)) s)

-- the digits of a text from a place on, looked for in that part of it
pub end_in_part
    : (s : List ℕ) (at r : ℕ)
    → r ≡ length (take_digits (take (length s - at) (drop at s)))
    → at + r ≡ at + length (take_digits (drop at s))
end_in_part s at r e =
    ap (λ (n : ℕ). at + n) (e ∙ ap (λ (l : List ℕ). length (take_digits l)) (part_to_end s at))

pub feed_inside : (s : List ℕ) → has_feed s ≡ ltb (length (take_line s)) (length s)
unfolding take_line has_feed
feed_inside [] = refl
feed_inside (b ∷ s) = go (eqb b FEED) (feed_inside s)
  where
    go
        : (t : Bool)
        → has_feed s ≡ ltb (length (take_line s)) (length s)
        → (t || has_feed s) ≡ ltb (length (pick t [] (b ∷ take_line s))) (suc (length s))
    go true e = sym (lt-ltb 0 (suc (length s)) (omega arith))
    go false e = e ∙ sym (leb-suc-suc (suc (length (take_line s))) (length s))

-- the end of the digits, looked for byte by byte
pub end_on
    : (s : List ℕ) (i : ℕ)
    → i < length s
    → is_hex (get_or s i 0) ≡ true
    → i + 1 + length (take_digits (drop (i + 1) s)) ≡ i + length (take_digits (drop i s))
unfolding take_digits
end_on s i h e = rw (add-one, drop-cons s i 0 h) (rw (e, take_digits) (omega arith))

pub end_here
    : (s : List ℕ) (i : ℕ) → i < length s → is_hex (get_or s i 0) ≡ false → length (take_digits (drop i s)) ≡ 0
unfolding take_digits
end_here s i h e = rw (drop-cons s i 0 h) (rw (e, take_digits))

-- the digits at the start, by the test of each byte
pub digits_while : (s : List ℕ) → take_while is_hex s ≡ take_digits s
unfolding take_digits
digits_while [] = refl
digits_while (b ∷ s) = take_while-cons is_hex b s ∙ go (is_hex b) (digits_while s)
  where
    go
        : (t : Bool)
        → take_while is_hex s ≡ take_digits s
        → cond t (b ∷ take_while is_hex s) [] ≡ pick t (b ∷ take_digits s) []
    go true e = ap (λ (l : List ℕ). b ∷ l) e
    go false e = refl

-- the digits are those before i and those from i on
abbrev pub Digits-to : List ℕ → ℕ → Type 0
Digits-to s i = i + length (take_digits (drop i s)) ≡ length (take_digits s)

pub to_next
    : (s : List ℕ) (i j : ℕ)
    → j ≡ i + 1
    → i < length s
    → is_hex (get_or s i 0) ≡ true
    → Digits-to s i
    → Digits-to s j
to_next s i j n h e p = rw n (end_on s i h e ∙ p)

pub to_end
    : (s : List ℕ) (i : ℕ)
    → i < length s
    → is_hex (get_or s i 0) ≡ false
    → Digits-to s i
    → i ≡ length (take_digits s)
to_end s i h e p = omega (arith, end_here s i h e)

-- an 0a is no digit
digit_on : (b : ℕ) → is_hex b ≡ true → b ≡ FEED → ⊥
digit_on b h e = let z : ◌≡◌ {A = ℕ} 0 1 = cc (ap is_hex e, h) in absurd (omega arith)

all_digits : (s : List ℕ) → all_hex (take_digits s) ≡ true
unfolding take_digits
all_digits [] = refl
all_digits (b ∷ s) = go (is_hex b) refl (all_digits s)
  where
    go : (t : Bool) → is_hex b ≡ t → all_hex (take_digits s) ≡ true → all_hex (pick t (b ∷ take_digits s) []) ≡ true
    go true h e = rw (h, e)
    go false h e = refl

-- where the digits run up to an 0a or to the end of the text, they are the first line
digits_line
    : (s : List ℕ)
    → (length (take_digits s) < length s → get_or s (length (take_digits s)) 0 ≡ FEED)
    → take_line s ≡ take_digits s
unfolding take_line take_digits
digits_line [] f = refl
digits_line (b ∷ s) f = go (is_hex b) refl f (digits_line s)
  where
    go
        : (t : Bool)
        → is_hex b ≡ t
        → (length (pick t (b ∷ take_digits s) []) < suc (length s)
        → get_or (b ∷ s) (length (pick t (b ∷ take_digits s) [])) 0 ≡ FEED)
        → ((length (take_digits s) < length s → get_or s (length (take_digits s)) 0 ≡ FEED) → take_line s ≡ take_digits s)
        → pick (eqb b FEED) [] (b ∷ take_line s) ≡ pick t (b ∷ take_digits s) []
    go true h g e = rw (ne_eqb b FEED (digit_on b h), e (λ l. g (omega arith)))
    go false h g e = rw (eq-eqb b FEED (g (omega arith)))

-- where they run up to another byte, that byte is part of the line
other_byte
    : (s : List ℕ)
    → length (take_digits s) < length s
    → (get_or s (length (take_digits s)) 0 ≡ FEED → ⊥)
    → all_hex (take_line s) ≡ false
unfolding take_line take_digits
other_byte [] l f = absurd (omega arith)
other_byte (b ∷ s) l f = go (is_hex b) refl l f (other_byte s)
  where
    go
        : (t : Bool)
        → is_hex b ≡ t
        → length (pick t (b ∷ take_digits s) []) < suc (length s)
        → (get_or (b ∷ s) (length (pick t (b ∷ take_digits s) [])) 0 ≡ FEED → ⊥)
        → (length (take_digits s) < length s → (get_or s (length (take_digits s)) 0 ≡ FEED → ⊥)
        → all_hex (take_line s) ≡ false)
        → all_hex (pick (eqb b FEED) [] (b ∷ take_line s)) ≡ false
    go true h l g e = rw (ne_eqb b FEED (digit_on b h)) (rw (h, e (omega arith) g))
    go false h l g e = rw (ne_eqb b FEED g) (rw h)

-- the reader's answer past the end of the text
pub past_end : (s : List ℕ) (at : ℕ) → length s ≤ at → Ok None ≡ line_at s at
unfolding line_at lines_of
past_end s at h = rw (drop_of_length-le s h)

-- the reader's answer at a place in the text
answer_is
    : (s : List ℕ) (at : ℕ)
    → at < length s
    → line_at s at ≡ answer_of at (line (take_line (drop at s)) (has_feed (drop at s)) ∷ rest_of (drop at s))
unfolding line_at rest_of
answer_is s at inside = ap (answer_of at) (lines_first (drop at s) (omega (arith, length-drop at s)))

-- where its digits end at e
module _ (s : List ℕ) (at e : ℕ) (inside : at < length s) (ends : e ≡ at + length (take_digits (drop at s))) where
  abbrev rest : List ℕ
  rest = drop at s

  front_is : take_digits (drop at s) ≡ take (e - at) (drop at s)
  front_is =
      let z : e - at ≡ length (take_digits (drop at s)) = omega arith in
      rw z (digits_front (drop at s))

  pub front_hex : all_hex (take (e - at) (drop at s)) ≡ true
  front_hex = rw (← front_is) (all_digits (drop at s))

  pub unended : length s ≤ e → Err NoFrame ≡ line_at s at
  unended h =
      let whole = digits_line rest (λ l. absurd (omega (arith, length-drop at s))) in
      let short : length rest ≤ length (take_line rest) = omega (arith, ap length whole, length-drop at s) in
      let none : has_feed rest ≡ false = feed_inside rest ∙ le-ltb (length (take_line rest)) (length rest) short in
      rw (answer_is s at inside, none, and_off (is_digits (take_line rest)))

  module _ (more : e < length s) where
    byte_is : get_or (drop at s) (length (take_digits (drop at s))) 0 ≡ get_or s e 0
    byte_is = get_or-drop at s (length (take_digits (drop at s))) 0 ∙ ap (λ (i : ℕ). get_or s i 0) (sym ends)

    -- another byte behind the digits
    pub other_behind : (get_or s e 0 ≡ FEED → ⊥) → Err NoFrame ≡ line_at s at
    other_behind f =
        let bad : all_hex (take_line rest) ≡ false =
        other_byte rest (omega (arith, length-drop at s)) (λ z. f (sym byte_is ∙ z)) in
        let off : is_digits (take_line rest) ≡ false =
        rw (bad, and_off (eqb (length (take_line rest) % 2) 0)) (and_off (leb 1 (length (take_line rest)))) in
        rw (answer_is s at inside, off)

    module _ (feed : get_or s e 0 ≡ FEED) where
      line_is : take_line (drop at s) ≡ take (e - at) (drop at s)
      line_is = digits_line (drop at s) (λ l. byte_is ∙ feed) ∙ front_is

      pub not_digits : is_digits (take (e - at) (drop at s)) ≡ false → Err NoFrame ≡ line_at s at
      not_digits h = rw (answer_is s at inside, line_is, h)

      pub is_frame
          : (k a b c : ℕ)
          → is_digits (take (e - at) (drop at s)) ≡ true
          → k ≡ get_or (frame_of (take (e - at) (drop at s))) 0 0
          → a ≡ get_or (frame_of (take (e - at) (drop at s))) 1 0
          → b ≡ get_or (frame_of (take (e - at) (drop at s))) 2 0
          → c ≡ get_or (frame_of (take (e - at) (drop at s))) 3 0
          → Ok (Some (record { kind = k; len = length (take (e - at) (drop at s)) / 2; a = a; b = b; c = c; next = e + 1 }))
          ≡ line_at s at
      is_frame k a b c d ek ea eb ec =
          let ended : e ≡ at + length (take_line rest) = omega (arith, ap length line_is, ap length front_is) in
          let long : length (take_line rest) < length rest = omega (arith, length-drop at s) in
          let fed : has_feed rest ≡ true = feed_inside rest ∙ lt-ltb (length (take_line rest)) (length rest) long in
          rw (answer_is s at inside, fed, ← ended, line_is, d, ← frame_length (take (e - at) rest), ek, ea, eb, ec)

-- what a refusal tells a caller: the line at the place is not good
pub record Bad-line (s : List ℕ) (at n : ℕ) : Type 0 where
  pub first : Line
  pub rest : List Line
  pub lines : lines_of (drop at s) ≡ first ∷ rest
  pub bad : is_good first ≡ false
  pub number : n ≡ 1

-- what a frame tells a caller: it is that of the good line at the place, and the other lines start at its next
pub record Good-line (s : List ℕ) (at : ℕ) (f : Frame) : Type 0 where
  pub first : Line
  pub lines : lines_of (drop at s) ≡ first ∷ lines_of (drop f.next s)
  pub good : is_good first ≡ true
  pub frame_is : IsFrame f (frame_of first.bytes)
  pub on : at + 3 ≤ f.next
  pub inside : f.next ≤ length s

pub no_line : (s : List ℕ) (at : ℕ) → line_at s at ≡ Ok None → lines_of (drop at s) ≡ []
unfolding line_at
no_line s at h = go (lines_of (drop at s)) h
  where
    go : (ls : List Line) → answer_of at ls ≡ Ok None → ls ≡ []
    go [] e = refl
    go (l ∷ ls) e = at_test (is_good l) e
      where
        at_test
            : (t : Bool)
            → pick t (Ok (Some (frame (frame_of l.bytes) (at + length l.bytes + 1)))) (Err NoFrame) ≡ Ok None
            → l ∷ ls ≡ []
        at_test true x = let z : ◌≡◌ {A = ℕ} 0 1 = cc x in absurd (omega arith)
        at_test false x = let z : ◌≡◌ {A = ℕ} 0 1 = cc x in absurd (omega arith)

pub bad_line : (s : List ℕ) (at : ℕ) (r : Refusal) → line_at s at ≡ Err r → Bad-line s at (number_of r)
unfolding line_at
bad_line s at r h = go (lines_of (drop at s)) refl h
  where
    go : (ls : List Line) → lines_of (drop at s) ≡ ls → answer_of at ls ≡ Err r → Bad-line s at (number_of r)
    go [] e x = let z : ◌≡◌ {A = ℕ} 0 1 = cc x in absurd (omega arith)
    go (l ∷ ls) e x = at_test (is_good l) refl x
      where
        at_test
            : (t : Bool)
            → is_good l ≡ t
            → pick t (Ok (Some (frame (frame_of l.bytes) (at + length l.bytes + 1)))) (Err NoFrame) ≡ Err r
            → Bad-line s at (number_of r)
        at_test true g y = let z : ◌≡◌ {A = ℕ} 0 1 = cc y in absurd (omega arith)
        at_test false g y =
            let same : NoFrame ≡ r = cc y in
            record { first = l; rest = ls; lines = e; bad = g; number = sym (ap number_of same) }

-- the answer for a good line
frame_line
    : (s : List ℕ) (at : ℕ) (f : Frame)
    → at < length s
    → is_good (line (take_line (drop at s)) (has_feed (drop at s))) ≡ true
    → f ≡ frame (frame_of (take_line (drop at s))) (at + length (take_line (drop at s)) + 1)
    → Good-line s at f
frame_line s at f i g e =
    let u = drop at s in
    let both = and_true (is_digits (take_line u)) (has_feed u) g in
    let next : f.next ≡ at + length (take_line u) + 1 = ap (λ (x : Frame). x.next) e in
    let two : 2 ≤ length (take_line u) = (digits_parts (take_line u) both.0).two in
    let shorter : length (take_line u) < length u =
    ltb-true (length (take_line u)) (length u) (sym (feed_inside u) ∙ both.1) in
    let start : at + suc (length (take_line u)) ≡ f.next = omega arith in
    let rest : drop (suc (length (take_line u))) u ≡ drop f.next s =
    drop-drop (suc (length (take_line u))) at s ∙ ap (λ (n : ℕ). drop n s) start in
    record {
      first = line (take_line u) (has_feed u);
      lines =
          lines_first u (omega (arith, length-drop at s))
          ∙ ap (λ (l : List ℕ). line (take_line u) (has_feed u) ∷ lines_of l) rest;
      good = g;
      frame_is =
          record {
            kind_is = ap (λ (x : Frame). x.kind) e;
            len_is = ap (λ (x : Frame). x.len) e;
            a_is = ap (λ (x : Frame). x.a) e;
            b_is = ap (λ (x : Frame). x.b) e;
            c_is = ap (λ (x : Frame). x.c) e;
          };
      on = omega arith;
      inside = omega (arith, length-drop at s);
    }

pub good_line : (s : List ℕ) (at : ℕ) (f : Frame) → line_at s at ≡ Ok (Some f) → Good-line s at f
good_line s at f h = ⊎_elim (λ (z : length s ≤ at). past z) (λ (z : at < length s). here z) (le_or (length s) at)
  where
    past : length s ≤ at → Good-line s at f
    past z =
        let x : ◌≡◌ {A = ℕ} 0 1 = cc (past_end s at z, h) in
        absurd (omega arith)

    here : at < length s → Good-line s at f
    here z = at_test (is_good first) refl (sym (answer_is s at z) ∙ h)
      where
        first : Line
        first = line (take_line (drop at s)) (has_feed (drop at s))

        spelled : Frame
        spelled = frame (frame_of first.bytes) (at + length first.bytes + 1)

        at_test
            : (t : Bool)
            → is_good first ≡ t
            → pick t (Ok (Some spelled)) (Err NoFrame) ≡ Ok (Some f)
            → Good-line s at f
        at_test true g y = frame_line s at f z g (cc y)
        at_test false g y = let x : ◌≡◌ {A = ℕ} 0 1 = cc y in absurd (omega arith)
