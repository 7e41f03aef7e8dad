-- Placements written gap by gap, from the lowest: what is left to write.
-- Main statements: `key_bytes`; `rest_all`, `rest_held`, `rest_lowest`, `rest_end`; `length_begin`, `length_on`,
-- `length_done`; `write_begin`, `write_on`, `write_done`.
use mathlib.Core.Path.{◌≡◌, refl, sym, ◌∙◌, ap}
use mathlib.Core.Bool.{true, false}
use mathlib.Core.List.{List, [], ◌∷◌, ◌++◌, append_assoc, append-nil}
use mathlib.Core.Logic.{⊎_elim}
use Prim.Native.Nat.{ℕ, suc, ◌+◌, ◌-◌, ◌*◌, ◌≤◌, ◌<◌}
use native.Mathlib.Numerals.{add-one}
use native.Mathlib.Omega.{arith}
use lib.ListN.{length, length-append}
use borrow.Rule.Slice.PartMut.{mid_of, put_mid}
use Rattle.laws.proofs.Tests.{le_or}
use Rattle.paper_lines.specs.Lines.{line_text}
use Rattle.paper_lines.specs.Writing.{over}
use Rattle.paper_lines.proofs.Writing.{text-length, over_length, over_part}
use Rattle.paper_placements.specs.Words.{GAPS, holds, gaps_of, gaps_in, LowestFrom}
use Rattle.paper_placements.proofs.Words.{gaps_of_add, gaps_of_none}
use Rattle.paper_texts.specs.PlacementTexts.{BARRIER, key_text}

-- the gaps from g on that the words hold
pub rest_of : List ℕ → ℕ → List ℕ
rest_of ws g = gaps_of (holds ws) (GAPS - g) g

pub rest_all : (ws : List ℕ) → rest_of ws 0 ≡ gaps_in ws
unfolding rest_of gaps_in
rest_all ws = refl

pub rest_held : (ws : List ℕ) (g : ℕ) → g < GAPS → holds ws g ≡ true → rest_of ws g ≡ g ∷ rest_of ws (g + 1)
unfolding rest_of gaps_of
rest_held ws g h t =
    let z : GAPS - g ≡ suc (GAPS - (g + 1)) = omega arith in
    rw (z, t, add-one)

pub rest_end : (ws : List ℕ) (g : ℕ) → GAPS ≤ g → rest_of ws g ≡ []
unfolding rest_of gaps_of
rest_end ws g h =
    let z : GAPS - g ≡ 0 = omega arith in
    rw z

rest_skip
    : (ws : List ℕ) (lo g : ℕ) → lo ≤ g → g ≤ GAPS → ((i : ℕ) → lo ≤ i → i < g → holds ws i ≡ false)
    → rest_of ws lo ≡ rest_of ws g
unfolding rest_of
rest_skip ws lo g a b n =
    let z : GAPS - lo ≡ (g - lo) + (GAPS - g) = omega arith in
    let y : lo + (g - lo) ≡ g = omega arith in
    let w = gaps_of_none (holds ws) (g - lo) lo (λ i p q. n i p (omega arith)) in
    rw (z, gaps_of_add (holds ws) (g - lo) (GAPS - g) lo, w, y)

-- from a place on, the first gap left is the lowest
pub rest_lowest : (ws : List ℕ) (lo g : ℕ) → lo ≤ GAPS → LowestFrom ws lo g → rest_of ws lo ≡ rest_of ws g
rest_lowest ws lo g h l =
    let a : lo ≤ g = ⊎_elim (λ (z : GAPS ≤ g). omega arith) (λ (z : g < GAPS). (l.held z).0) (le_or GAPS g) in
    rest_skip ws lo g a l.fits (λ i p q. l.none i (omega (arith, l.fits)) p q)

pub barrier_length : (g : ℕ) → length (line_text (BARRIER ∷ (g ∷ []))) ≡ 5
barrier_length g = text-length (BARRIER ∷ (g ∷ []))

pub key_length : (g : ℕ) (gs : List ℕ) → length (key_text (g ∷ gs)) ≡ 5 + length (key_text gs)
unfolding key_text
key_length g gs =
    length-append (line_text (BARRIER ∷ (g ∷ []))) (key_text gs) ∙
    ap (λ (n : ℕ). n + length (key_text gs)) (barrier_length g)

-- a key's text has 5 bytes a gap
pub key_bytes : (gs : List ℕ) → length (key_text gs) ≡ 5 * length gs
unfolding key_text
key_bytes [] = refl
key_bytes (g ∷ gs) = omega (arith, key_length g gs, key_bytes gs)

-- a lowest gap, and what stands from it on
pub record Lowest (ws : List ℕ) (g : ℕ) : Type 0 where
  pub fits : g ≤ GAPS
  pub held : g < GAPS → holds ws g ≡ true

lowest : (ws : List ℕ) (lo g : ℕ) → LowestFrom ws lo g → Lowest ws g
lowest ws lo g l = record { fits = l.fits; held = λ h. (l.held h).1 }

-- while the length is summed: what is summed and what is left give the whole
pub record LengthInv (ws : List ℕ) (n g : ℕ) : Type 0 where
  pub at_gap : Lowest ws g
  pub sum : n + length (key_text (rest_of ws g)) ≡ length (key_text (gaps_in ws))

pub length_begin : (ws : List ℕ) (g : ℕ) → LowestFrom ws 0 g → LengthInv ws 0 g
length_begin ws g l =
    let z : length (key_text (rest_of ws g)) ≡ length (key_text (gaps_in ws)) =
    rw (← rest_lowest ws 0 g (omega arith) l, rest_all) in
    record { at_gap = lowest ws 0 g l; sum = omega arith }

pub length_on
    : (ws : List ℕ) (n g r : ℕ) → g < GAPS → LengthInv ws n g → LowestFrom ws (g + 1) r → LengthInv ws (n + 5) r
length_on ws n g r h i l =
    let z : length (key_text (rest_of ws g)) ≡ 5 + length (key_text (rest_of ws r)) =
    rw
    (rest_held ws g h (i.at_gap.held h), ← rest_lowest ws (g + 1) r (omega arith) l)
    (key_length g (rest_of ws (g + 1))) in
    record { at_gap = lowest ws (g + 1) r l; sum = omega (arith, i.sum) }

pub length_done : (ws : List ℕ) (n g : ℕ) → GAPS ≤ g → LengthInv ws n g → n ≡ length (key_text (gaps_in ws))
unfolding key_text
length_done ws n g h i = omega (arith, i.sum, ap (λ (x : List ℕ). length (key_text x)) (rest_end ws g h))

-- while the text is written: what is written over the buffer and what is left give the whole
pub record WriteInv (ws o out : List ℕ) (at g : ℕ) : Type 0 where
  pub at_gap : Lowest ws g
  pub xs : List ℕ
  pub at_is : at ≡ length xs
  pub out_is : out ≡ over xs o
  pub whole : xs ++ key_text (rest_of ws g) ≡ key_text (gaps_in ws)

pub write_begin : (ws o : List ℕ) (g : ℕ) → LowestFrom ws 0 g → WriteInv ws o o 0 g
write_begin ws o g l =
    record {
      at_gap = lowest ws 0 g l;
      xs = [];
      at_is = refl;
      out_is = refl;
      whole = rw (← rest_lowest ws 0 g (omega arith) l, rest_all);
    }

-- the buffer keeps its length, and the place lies in it
pub write_in
    : (ws o out : List ℕ) (at g : ℕ) → length (key_text (gaps_in ws)) ≤ length o → WriteInv ws o out at g
    → (length out ≡ length o) × (at ≤ length o)
write_in ws o out at g r i =
    let z : length i.xs + length (key_text (rest_of ws g)) ≡ length (key_text (gaps_in ws)) =
    sym (length-append i.xs (key_text (rest_of ws g))) ∙ ap length i.whole in
    let y : length i.xs ≤ length o = omega arith in
    (ap length i.out_is ∙ over_length i.xs o y, omega (arith, i.at_is))

-- the next lowest gap lies above
pub lowest_up : (ws : List ℕ) (g r : ℕ) → g < GAPS → LowestFrom ws (g + 1) r → g < r
lowest_up ws g r h l =
    ⊎_elim
    (λ (z : GAPS ≤ r). omega arith)
    (λ (z : r < GAPS). let y : g + 1 ≤ r = (l.held z).0 in omega arith)
    (le_or GAPS r)

module _ (ws o out : List ℕ) (at g : ℕ) (h : g < GAPS) (i : WriteInv ws o out at g) where
  step-text : key_text (rest_of ws g) ≡ line_text (BARRIER ∷ (g ∷ [])) ++ key_text (rest_of ws (g + 1))
  unfolding key_text
  step-text = rw (rest_held ws g h (i.at_gap.held h))

  pub write_room : length (key_text (gaps_in ws)) ≤ length o → at + 5 ≤ length o
  write_room r =
      let z : length i.xs + length (key_text (rest_of ws g)) ≡ length (key_text (gaps_in ws)) =
      sym (length-append i.xs (key_text (rest_of ws g))) ∙ ap length i.whole in
      let y : length (key_text (rest_of ws g)) ≡ 5 + length (key_text (rest_of ws (g + 1))) =
      rw (rest_held ws g h (i.at_gap.held h)) (key_length g (rest_of ws (g + 1))) in
      omega (arith, i.at_is)

  pub write_on
      : (f p : List ℕ) (n r : ℕ)
      → length (key_text (gaps_in ws)) ≤ length o
      → f ≡ BARRIER ∷ (g ∷ [])
      → n ≡ length (line_text f)
      → p ≡ over (line_text f) (mid_of at (length out - at) out)
      → LowestFrom ws (g + 1) r
      → WriteInv ws o (put_mid at (length out - at) out p) (at + n) r
  write_on f p n r room e m q l =
      let t : n ≡ 5 = m ∙ (ap (λ (x : List ℕ). length (line_text x)) e ∙ barrier_length g) in
      let k : at + length (line_text f) ≤ length o = omega (arith, write_room room) in
      record {
        at_gap = lowest ws (g + 1) r l;
        xs = i.xs ++ line_text f;
        at_is = rw (length-append i.xs (line_text f)) (omega (arith, i.at_is));
        out_is = over_part out o i.xs (line_text f) p at i.out_is i.at_is k q;
        whole =
            rw (
              append_assoc i.xs (line_text f) (key_text (rest_of ws r)),
              ← rest_lowest ws (g + 1) r (omega arith) l,
              e,
              ← step-text,
            )
            i.whole;
      }

pub write_done
    : (ws o out : List ℕ) (at g : ℕ) → GAPS ≤ g → WriteInv ws o out at g
    → (at ≡ length (key_text (gaps_in ws))) × (out ≡ over (key_text (gaps_in ws)) o)
unfolding key_text
write_done ws o out at g h i =
    let e = ap (λ (x : List ℕ). i.xs ++ key_text x) (sym (rest_end ws g h)) in
    let z : i.xs ≡ key_text (gaps_in ws) = sym (append-nil i.xs) ∙ (e ∙ i.whole) in
    (i.at_is ∙ ap length z, i.out_is ∙ ap (λ (x : List ℕ). over x o) z)
