-- 01, "Papers with known results", as texts: P, Q, R and the short papers are read, frame by frame as given there, and
-- what the program writes for P is computed. Nothing is used but the definitions.
-- Main statements: `P-read`, `Q-read`, `R-read`, `P-spelled`, `case_1_written`, cases 9 to 11, number 2, the limits of
-- case 12, case 13; of 02, job 1, `forward_read`, `P-forward-read`, `own_ends_read`.
use mathlib.Core.Path.{◌≡◌, refl}
use mathlib.Core.List.{List, [], ◌∷◌, ◌++◌}
use Prim.Native.Nat.{ℕ}
use lib.ListN.{length, replicate}
use Rattle.paper_nests.specs.Kinds.{INDEPENDENT, CARRIED}
use Rattle.paper_nests.specs.Nests.{dep, Nest, barring, nest, empty, with_dep}
use Rattle.paper_lines.specs.Lines.{lines_of, frame_of}
use Rattle.paper_placements.specs.Words.{gaps_of}
use Rattle.paper_lines.proofs.Spelling.{frames_text}
use Rattle.paper_texts.specs.NestTexts.{got, read_lines, blank, read_nest, point_pieces, dep_pieces, bar_pieces}
use Rattle.paper_texts.specs.NestTexts.{nest_text}
use Rattle.paper_texts.specs.Pieces.{pieces_text}
use Rattle.paper_texts.specs.PlacementTexts.{placed, place_lines, read_placement, key_text}
use Rattle.paper_texts.specs.Counts.{counts_from}
use Rattle.paper_texts.specs.Program.{program_text}
use Rattle.paper_texts.proofs.Spelled.{valid_accepted}

-- P is 01 01 03 03 03 03 02 01 03 03 03 03 02 02 with 110205, 12010403, 11080b, 12070a09, 12000a02, 110409
abbrev pub P-lines : List ℕ
P-lines =
    frames_text
    ((0x01 ∷ []) ∷ (0x01 ∷ []) ∷ (0x03 ∷ []) ∷ (0x03 ∷ []) ∷ (0x03 ∷ []) ∷ (0x03 ∷ []) ∷ (0x02 ∷ []) ∷
    (0x01 ∷ []) ∷ (0x03 ∷ []) ∷ (0x03 ∷ []) ∷ (0x03 ∷ []) ∷ (0x03 ∷ []) ∷ (0x02 ∷ []) ∷ (0x02 ∷ []) ∷
    (0x11 ∷ 0x02 ∷ 0x05 ∷ []) ∷ (0x12 ∷ 0x01 ∷ 0x04 ∷ 0x03 ∷ []) ∷ (0x11 ∷ 0x08 ∷ 0x0b ∷ []) ∷
    (0x12 ∷ 0x07 ∷ 0x0a ∷ 0x09 ∷ []) ∷ (0x12 ∷ 0x00 ∷ 0x0a ∷ 0x02 ∷ []) ∷ (0x11 ∷ 0x04 ∷ 0x09 ∷ []) ∷ [])

abbrev pub P : Nest
P =
    nest
    (1 ∷ 1 ∷ 3 ∷ 3 ∷ 3 ∷ 3 ∷ 2 ∷ 1 ∷ 3 ∷ 3 ∷ 3 ∷ 3 ∷ 2 ∷ 2 ∷ [])
    (dep INDEPENDENT 0 2 5 ∷ dep CARRIED 1 4 3 ∷ dep INDEPENDENT 0 8 11 ∷ dep CARRIED 7 10 9 ∷ dep CARRIED 0 10 2 ∷
    dep INDEPENDENT 0 4 9 ∷ [])

pub P-read : read_nest P-lines ≡ got 0 0 P
unfolding read_nest read_lines lines_of frame_of
P-read = refl

-- Q is 01 03 01 01 03 03 02 03 02 02 with 110105, 12030504, 110407
abbrev pub Q-lines : List ℕ
Q-lines =
    frames_text
    ((0x01 ∷ []) ∷ (0x03 ∷ []) ∷ (0x01 ∷ []) ∷ (0x01 ∷ []) ∷ (0x03 ∷ []) ∷ (0x03 ∷ []) ∷ (0x02 ∷ []) ∷
    (0x03 ∷ []) ∷ (0x02 ∷ []) ∷ (0x02 ∷ []) ∷
    (0x11 ∷ 0x01 ∷ 0x05 ∷ []) ∷ (0x12 ∷ 0x03 ∷ 0x05 ∷ 0x04 ∷ []) ∷ (0x11 ∷ 0x04 ∷ 0x07 ∷ []) ∷ [])

abbrev pub Q : Nest
Q =
    nest
    (1 ∷ 3 ∷ 1 ∷ 1 ∷ 3 ∷ 3 ∷ 2 ∷ 3 ∷ 2 ∷ 2 ∷ [])
    (dep INDEPENDENT 0 1 5 ∷ dep CARRIED 3 5 4 ∷ dep INDEPENDENT 0 4 7 ∷ [])

pub Q-read : read_nest Q-lines ≡ got 0 0 Q
unfolding read_nest read_lines lines_of frame_of
Q-read = refl

-- R is 01, six times 03, 02 with 110104, 110306, 12000502
abbrev pub R-lines : List ℕ
R-lines =
    frames_text
    ((0x01 ∷ []) ∷ (0x03 ∷ []) ∷ (0x03 ∷ []) ∷ (0x03 ∷ []) ∷ (0x03 ∷ []) ∷ (0x03 ∷ []) ∷ (0x03 ∷ []) ∷ (0x02 ∷ []) ∷
    (0x11 ∷ 0x01 ∷ 0x04 ∷ []) ∷ (0x11 ∷ 0x03 ∷ 0x06 ∷ []) ∷ (0x12 ∷ 0x00 ∷ 0x05 ∷ 0x02 ∷ []) ∷ [])

abbrev pub R : Nest
R =
    nest
    (1 ∷ 3 ∷ 3 ∷ 3 ∷ 3 ∷ 3 ∷ 3 ∷ 2 ∷ [])
    (dep INDEPENDENT 0 1 4 ∷ dep INDEPENDENT 0 3 6 ∷ dep CARRIED 0 5 2 ∷ [])

pub R-read : read_nest R-lines ≡ got 0 0 R
unfolding read_nest read_lines lines_of frame_of
R-read = refl

-- case 1: the program writes 2105, 210b, 220000, 220101, 220701, each ended by 0a
-- (30 to 39 are the digits 0 to 9, 62 is b)
pub case_1_written
    : program_text P-lines (5 ∷ 11 ∷ [])
    ≡ (0x32 ∷ 0x31 ∷ 0x30 ∷ 0x35 ∷ 0x0a ∷
    0x32 ∷ 0x31 ∷ 0x30 ∷ 0x62 ∷ 0x0a ∷
    0x32 ∷ 0x32 ∷ 0x30 ∷ 0x30 ∷ 0x30 ∷ 0x30 ∷ 0x0a ∷
    0x32 ∷ 0x32 ∷ 0x30 ∷ 0x31 ∷ 0x30 ∷ 0x31 ∷ 0x0a ∷
    0x32 ∷ 0x32 ∷ 0x30 ∷ 0x37 ∷ 0x30 ∷ 0x31 ∷ 0x0a ∷ [])
unfolding program_text read_nest read_lines lines_of frame_of key_text counts_from gaps_of
case_1_written = refl

-- case 9: 01, 03, 02, 12000101
pub case_9_read
    : read_nest (frames_text ((0x01 ∷ []) ∷ (0x03 ∷ []) ∷ (0x02 ∷ []) ∷ (0x12 ∷ 0x00 ∷ 0x01 ∷ 0x01 ∷ []) ∷ []))
    ≡ got 0 0 (nest (1 ∷ 3 ∷ 2 ∷ []) (dep CARRIED 0 1 1 ∷ []))
unfolding read_nest read_lines lines_of frame_of
case_9_read = refl

-- 02, job 1: a carried dependence with s before t is accepted, alone and beside P's; from a loop's own DO to its own
-- ENDDO is 7 as before
pub forward_read
    : read_nest
    (frames_text
    ((0x01 ∷ []) ∷ (0x03 ∷ []) ∷ (0x03 ∷ []) ∷ (0x03 ∷ []) ∷ (0x02 ∷ []) ∷ (0x12 ∷ 0x00 ∷ 0x01 ∷ 0x03 ∷ []) ∷ []))
    ≡ got 0 0 (nest (1 ∷ 3 ∷ 3 ∷ 3 ∷ 2 ∷ []) (dep CARRIED 0 1 3 ∷ []))
unfolding read_nest read_lines lines_of frame_of
forward_read = refl

pub P-forward-read
    : read_nest (P-lines ++ frames_text ((0x12 ∷ 0x01 ∷ 0x03 ∷ 0x04 ∷ []) ∷ []))
    ≡ got 0 0 (with_dep P (dep CARRIED 1 3 4))
unfolding read_nest read_lines lines_of frame_of
P-forward-read = refl

pub own_ends_read : read_nest (P-lines ++ frames_text ((0x12 ∷ 0x01 ∷ 0x01 ∷ 0x06 ∷ []) ∷ [])) ≡ got 7 21 empty
unfolding read_nest read_lines lines_of frame_of
own_ends_read = refl

-- case 10: 01, 02
pub case_10_read : read_nest (frames_text ((0x01 ∷ []) ∷ (0x02 ∷ []) ∷ [])) ≡ got 0 0 (nest (1 ∷ 2 ∷ []) [])
unfolding read_nest read_lines lines_of frame_of
case_10_read = refl

-- case 11: the empty nest text means 01, 02, and the program writes 220000, ended by 0a
pub case_11_read : read_nest [] ≡ got 0 0 blank
unfolding read_nest
case_11_read = refl

pub case_11_written : program_text [] [] ≡ 0x32 ∷ 0x32 ∷ 0x30 ∷ 0x30 ∷ 0x30 ∷ 0x30 ∷ 0x0a ∷ []
unfolding program_text read_nest key_text counts_from
case_11_written = refl

-- a text with lines but no point is refused as before: a lone 0a has number 1, a dependence first number 4
pub feed_alone : read_nest (0x0a ∷ []) ≡ got 1 1 empty
unfolding read_nest read_lines lines_of
feed_alone = refl

pub dependence_first : read_nest (frames_text ((0x11 ∷ 0x00 ∷ 0x01 ∷ []) ∷ [])) ≡ got 4 1 empty
unfolding read_nest read_lines lines_of frame_of
dependence_first = refl

-- a frame of no known kind, or of a length that is not its kind's, has number 2
pub unknown_kind : read_nest (frames_text ((0x05 ∷ []) ∷ [])) ≡ got 2 1 empty
unfolding read_nest read_lines lines_of frame_of
unknown_kind = refl

pub point_of_two : read_nest (frames_text ((0x01 ∷ 0x00 ∷ []) ∷ [])) ≡ got 2 1 empty
unfolding read_nest read_lines lines_of frame_of
point_of_two = refl

pub independent_of_four
    : read_nest (frames_text ((0x01 ∷ []) ∷ (0x02 ∷ []) ∷ (0x11 ∷ 0x00 ∷ 0x00 ∷ 0x01 ∷ []) ∷ [])) ≡ got 2 3 empty
unfolding read_nest read_lines lines_of frame_of
independent_of_four = refl

pub carried_of_three
    : read_nest (frames_text ((0x01 ∷ []) ∷ (0x02 ∷ []) ∷ (0x12 ∷ 0x00 ∷ 0x01 ∷ []) ∷ [])) ≡ got 2 3 empty
unfolding read_nest read_lines lines_of frame_of
carried_of_three = refl

-- 02, job 7: barred gaps stand anywhere among the dependences, and repeat
abbrev bars_lines : List ℕ → List ℕ
bars_lines f =
    frames_text
    ((0x01 ∷ []) ∷ (0x03 ∷ []) ∷ (0x03 ∷ []) ∷ (0x02 ∷ []) ∷ (0x13 ∷ 0x02 ∷ []) ∷ (0x11 ∷ 0x01 ∷ 0x02 ∷ []) ∷
    (0x13 ∷ 0x02 ∷ []) ∷ f ∷ [])

pub bars_read
    : read_nest (bars_lines (0x12 ∷ 0x00 ∷ 0x02 ∷ 0x01 ∷ []))
    ≡ got 0 0
    (barring (1 ∷ 3 ∷ 3 ∷ 2 ∷ []) (dep INDEPENDENT 0 1 2 ∷ dep CARRIED 0 2 1 ∷ []) (2 ∷ 2 ∷ []))
unfolding read_nest read_lines lines_of frame_of
bars_read = refl

-- a point behind them has number 3, a gap out of range 8, a frame of three bytes 2; before all points are there 4
pub point_after_bar : read_nest (bars_lines (0x03 ∷ [])) ≡ got 3 8 empty
unfolding read_nest read_lines lines_of frame_of
point_after_bar = refl

pub bar_zero : read_nest (bars_lines (0x13 ∷ 0x00 ∷ [])) ≡ got 8 8 empty
unfolding read_nest read_lines lines_of frame_of
bar_zero = refl

pub bar_beyond : read_nest (bars_lines (0x13 ∷ 0x04 ∷ [])) ≡ got 8 8 empty
unfolding read_nest read_lines lines_of frame_of
bar_beyond = refl

pub bar_of_three : read_nest (bars_lines (0x13 ∷ 0x01 ∷ 0x00 ∷ [])) ≡ got 2 8 empty
unfolding read_nest read_lines lines_of frame_of
bar_of_three = refl

pub bar_first : read_nest (frames_text ((0x01 ∷ []) ∷ (0x13 ∷ 0x01 ∷ []) ∷ [])) ≡ got 4 2 empty
unfolding read_nest read_lines lines_of frame_of
bar_first = refl

-- of several loops it has number 14, after 8; of one loop the 256th has number 5
pub bar_of_P : read_nest (P-lines ++ frames_text ((0x13 ∷ 0x05 ∷ []) ∷ [])) ≡ got 14 21 empty
unfolding read_nest read_lines lines_of frame_of
bar_of_P = refl

pub bar_beyond_P : read_nest (P-lines ++ frames_text ((0x13 ∷ 0x0e ∷ []) ∷ [])) ≡ got 8 21 empty
unfolding read_nest read_lines lines_of frame_of
bar_beyond_P = refl

abbrev barred_so : ℕ → Nest
barred_so k = barring (1 ∷ 3 ∷ 2 ∷ []) [] (replicate k 1)

pub bars_255 : read_nest (nest_text (barred_so 255)) ≡ got 0 0 (barred_so 255)
bars_255 = valid_accepted (barred_so 255) refl

pub bar_256 : read_nest (nest_text (barred_so 256)) ≡ got 5 259 empty
unfolding read_nest read_lines lines_of frame_of nest_text point_pieces dep_pieces bar_pieces pieces_text
bar_256 = refl

-- 02, job 10: a flagged DO is read as a DO, and its point is kept, under a barred gap too; the spelling writes it so
abbrev flagged_lines : List ℕ → List ℕ
flagged_lines f = frames_text ((0x04 ∷ []) ∷ (0x03 ∷ []) ∷ f ∷ (0x02 ∷ []) ∷ (0x02 ∷ []) ∷ (0x11 ∷ 0x02 ∷ 0x03 ∷ []) ∷ [])

abbrev flagged_nest : Nest
flagged_nest =
    record { points = 1 ∷ 3 ∷ 1 ∷ 2 ∷ 2 ∷ []; deps = dep INDEPENDENT 0 2 3 ∷ []; barred = []; flagged = 0 ∷ 2 ∷ [] }

pub flagged_read : read_nest (flagged_lines (0x04 ∷ [])) ≡ got 0 0 flagged_nest
unfolding read_nest read_lines lines_of frame_of
flagged_read = refl

pub flagged_spelled : nest_text flagged_nest ≡ flagged_lines (0x04 ∷ [])
unfolding nest_text point_pieces dep_pieces bar_pieces pieces_text
flagged_spelled = refl

pub flagged_barred
    : read_nest (frames_text ((0x04 ∷ []) ∷ (0x02 ∷ []) ∷ (0x13 ∷ 0x01 ∷ []) ∷ []))
    ≡ got 0 0 (record { points = 1 ∷ 2 ∷ []; deps = []; barred = 1 ∷ []; flagged = 0 ∷ [] })
unfolding read_nest read_lines lines_of frame_of
flagged_barred = refl

-- of two bytes it has number 2, after a dependence 3, after the last ENDDO 4; nine deep it has number 5
pub flagged_of_two : read_nest (flagged_lines (0x04 ∷ 0x00 ∷ [])) ≡ got 2 3 empty
unfolding read_nest read_lines lines_of frame_of
flagged_of_two = refl

pub flagged_late : read_nest (P-lines ++ frames_text ((0x04 ∷ []) ∷ [])) ≡ got 3 21 empty
unfolding read_nest read_lines lines_of frame_of
flagged_late = refl

pub flagged_after : read_nest (frames_text ((0x01 ∷ []) ∷ (0x02 ∷ []) ∷ (0x04 ∷ []) ∷ [])) ≡ got 4 3 empty
unfolding read_nest read_lines lines_of frame_of
flagged_after = refl

pub flagged_deep : read_nest (frames_text (replicate 9 (0x04 ∷ []))) ≡ got 5 9 empty
unfolding read_nest read_lines lines_of frame_of
flagged_deep = refl

-- P's text is that of its pieces
pub P-spelled : P-lines ≡ nest_text P
unfolding nest_text point_pieces dep_pieces bar_pieces pieces_text
P-spelled = refl

-- case 12: 256 points and 512 dependences are accepted; a 257th point with a loop still open, or a 513th dependence,
-- has number 5, and a point right after a closed nest number 4
abbrev pub full : Nest
full = nest (1 ∷ replicate 254 3 ++ (2 ∷ [])) (replicate 512 (dep INDEPENDENT 0 1 2))

pub full_read : read_nest (nest_text full) ≡ got 0 0 full
full_read = valid_accepted full refl

pub point_257 : read_nest (nest_text (nest (1 ∷ replicate 256 3) [])) ≡ got 5 257 empty
unfolding read_nest read_lines lines_of frame_of nest_text point_pieces dep_pieces bar_pieces pieces_text
point_257 = refl

pub dependence_513
    : read_nest (nest_text (nest (1 ∷ 3 ∷ 3 ∷ 2 ∷ []) (replicate 513 (dep INDEPENDENT 0 1 2)))) ≡ got 5 517 empty
unfolding read_nest read_lines lines_of frame_of nest_text point_pieces dep_pieces bar_pieces pieces_text
dependence_513 = refl

pub point_after : read_nest (nest_text (nest (1 ∷ 2 ∷ 3 ∷ []) [])) ≡ got 4 3 empty
unfolding read_nest read_lines lines_of frame_of nest_text point_pieces dep_pieces bar_pieces pieces_text
point_after = refl

-- loops 8 deep are accepted, 9 deep have number 5
abbrev pub deep : Nest
deep = nest (replicate 8 1 ++ replicate 8 2) []

pub deep_8 : read_nest (nest_text deep) ≡ got 0 0 deep
deep_8 = valid_accepted deep refl

pub deep_9 : read_nest (nest_text (nest (replicate 9 1 ++ replicate 9 2) [])) ≡ got 5 9 empty
unfolding read_nest read_lines lines_of frame_of nest_text point_pieces dep_pieces bar_pieces pieces_text
deep_9 = refl

-- case 13: gap 13 of P is accepted, 14 has number 8; the key of P needs 10 bytes
pub gap_13 : read_placement (length P.points) P.barred (key_text (13 ∷ [])) ≡ placed 0 0 (13 ∷ [])
unfolding read_placement place_lines key_text lines_of frame_of
gap_13 = refl

pub gap_14 : read_placement (length P.points) P.barred (key_text (14 ∷ [])) ≡ placed 8 1 []
unfolding read_placement place_lines key_text lines_of frame_of
gap_14 = refl

-- 02, job 7: a barred gap has number 16, after 8
pub gap_barred : read_placement 4 (2 ∷ 2 ∷ []) (key_text (1 ∷ 2 ∷ [])) ≡ placed 16 2 []
unfolding read_placement place_lines key_text lines_of frame_of
gap_barred = refl

pub gap_barred_again : read_placement 4 (2 ∷ 2 ∷ []) (key_text (3 ∷ 2 ∷ [])) ≡ placed 8 2 []
unfolding read_placement place_lines key_text lines_of frame_of
gap_barred_again = refl

pub key_bytes : length (key_text (5 ∷ 11 ∷ [])) ≡ 10
unfolding key_text
key_bytes = refl
