-- Load: what a reading says of the reply.
-- Main statements: `load_refused`, `load_accepted`.
use mathlib.Core.Path.{◌≡◌, sym, ◌∙◌, ap}
use Rattle.std.proofs.Common.{Ok, Err}
use mathlib.Core.Bool.{true, false}
use mathlib.Core.List.{List, []}
use Prim.Native.Nat.{ℕ}
use lib.Dec.{eqb}
use borrow.Author.Tests.{eq-eqb, ne_eqb}
use Rattle.paper_nests.specs.Stored.{nest_in}
use Rattle.paper_placements.specs.Words.{holds}
use Rattle.paper_placements.proofs.Words.{gaps_none}
use Rattle.desk_sitting.specs.Kept as Kept
use Rattle.desk_moves.specs.Ring as Ring
use Rattle.paper_texts.specs.NestTexts.{Got, read_nest}
use Rattle.paper_texts.specs.Reads.{IsRead}
use Rattle.paper_nests.specs.declared.Nest as DN
use Rattle.paper_refusals.specs.declared.Fault as PF
use Rattle.paper_refusals.specs.Numbers.{number_of}
use Rattle.paper_refusals.proofs.Numbers.{never_zero}
use Rattle.desk.specs.declared.Desk as DD
use Rattle.desk.specs.declared.Reply as DR
use Rattle.desk.specs.Says.{LoadSays}
use Rattle.desk.proofs.Held.{held}

-- a refused text, and an accepted one
pub load_refused
    : (s : List ℕ) (f : PF.Fault) → IsRead s (Err f)
    → (d : DD.Desk) (r : DR.Reply)
    → r.number ≡ number_of f.refusal → r.line ≡ f.line → r.desk ≡ d → LoadSays d s r
load_refused s f read d r n l k =
    let number : number_of f.refusal ≡ (read_nest s).number = ap (λ (g : Got). g.number) read.got_is in
    let z : eqb (read_nest s).number 0 ≡ false =
    ne_eqb (read_nest s).number 0 (λ e. never_zero f.refusal (number ∙ e)) in
    record { number_is = n ∙ number; line_is = l ∙ ap (λ (g : Got). g.place) read.got_is; desk_is = rw z k }

pub load_accepted
    : (s : List ℕ) (q : DN.Nest) → IsRead s (Ok q)
    → (d : DD.Desk) (r : DR.Reply)
    → r.number ≡ 0 → r.line ≡ 0 → r.desk.loaded ≡ true → r.desk.nest ≡ q
    → r.desk.planned ≡ false → ((i : ℕ) → holds r.desk.key.words i ≡ false)
    → Kept.EmptySays q.many r.desk.sitting
    → Ring.EmptySays r.desk.moves
    → LoadSays d s r
load_accepted s q read d r n l a m p k e ms =
    let number : 0 ≡ (read_nest s).number = ap (λ (g : Got). g.number) read.got_is in
    let nest : nest_in q ≡ (read_nest s).nest_is = ap (λ (g : Got). g.nest_is) read.got_is in
    let z : eqb (read_nest s).number 0 ≡ true = eq-eqb (read_nest s).number 0 (sym number) in
    record {
      number_is = n ∙ number;
      line_is = l ∙ ap (λ (g : Got). g.place) read.got_is;
      desk_is = rw z
          (held r.desk true (read_nest s).nest_is false [] a (rw m nest) p
          (gaps_none r.desk.key.words (λ i _. k i)) (rw m read.counted) (rw m e) ms);
    }
