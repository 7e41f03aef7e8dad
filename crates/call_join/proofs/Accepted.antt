-- Two texts that are accepted, and bar no gap.
-- Main statement: `accepted_papers`.
use mathlib.Core.Path.{◌≡◌, sym, ap, ◌∙◌}
use mathlib.Core.Bool.{true}
use mathlib.Core.List.{List}
use Prim.Native.Nat.{ℕ}
use native.Mathlib.Omega.{arith}
use Rattle.std.proofs.Common.{Ok}
use Rattle.laws.proofs.Members.{no_members}
use Rattle.paper_nests.specs.declared.Nest as DN
use Rattle.paper_nests.specs.Stored.{nest_in}
use Rattle.paper_nests.specs.Valid.{is_valid}
use Rattle.paper_texts.specs.NestTexts.{Got}
use Rattle.paper_texts.specs.Reads.{IsRead}
use Rattle.paper_texts.proofs.Accepted.{accepted_valid}
use Rattle.call_join.specs.JointNests.{Papers}

accepted : (s : List ℕ) (n : DN.Nest) → IsRead s (Ok n) → is_valid (nest_in n) ≡ true
accepted s n i =
    ap (λ (g : Got). is_valid g.nest_is) i.got_is ∙ accepted_valid s (ap (λ (g : Got). g.number) (sym i.got_is))

pub accepted_papers
    : {a b : List ℕ} {n m : DN.Nest} → IsRead a (Ok n) → IsRead b (Ok m) → n.bars ≡ 0 → m.bars ≡ 0
    → Papers (nest_in n) (nest_in m)
accepted_papers {a} {b} {n} {m} i j p q =
    record {
      first = accepted a n i;
      second = accepted b m j;
      first_unbarred = no_members (nest_in n).barred (omega (arith, i.counted.bars_is, p));
      second_unbarred = no_members (nest_in m).barred (omega (arith, j.counted.bars_is, q));
    }
