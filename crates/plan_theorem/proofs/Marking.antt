-- What the desk's verdicts mean, with the planner's key: Best is said of the keys alone, Dearer of a loop that costs
-- more, and no verdict depends on which of the keys the desk holds.
-- Main statements: `best_iff_key`, `dearer_greater`, `mark_determined`; of texts, `marked_best` and `marked_dearer`.
use mathlib.Core.Path.{◌≡◌, refl, ap, ◌∙◌}
use mathlib.Core.Bool.{true, false}
use mathlib.Core.List.{List, [], ◌∷◌}
use mathlib.Core.Logic.{◌↔◌}
use Prim.Native.Nat.{ℕ, zero, suc}
use lib.ListN.{length}
use Rattle.laws.specs.Choice.{is_in}
use Rattle.laws.proofs.Members.{in_here, in_later}
use Rattle.paper_nests.specs.Nests.{Nest}
use Rattle.paper_nests.specs.Loops.{is_do}
use Rattle.paper_nests.specs.Valid.{is_shape, is_valid}
use Rattle.paper_nests.proofs.Deps.{valid_is}
use Rattle.paper_placements.specs.Placements.{are_gaps, avoids, loops_of, uncut, differ_from, differ}
use Rattle.paper_order.specs.Keys.{IsKey}
use Rattle.paper_order.specs.Verdicts.{Dearer, Best, verdict_by, mark_of}
use Rattle.paper_placements.proofs.LoopLists.{listed_loop, differ_at}
use Rattle.paper_order.proofs.LoopOrder.{SameCounts}
use Rattle.paper_order.proofs.Keys.{keys_agree}
use Rattle.paper_order.proofs.Verdicts.{IsDearer}
use Rattle.paper_order.proofs.Verdicts as Verdicts
use Rattle.paper_barred.specs.Reduced.{is_blocked}
use Rattle.paper_barred.proofs.Blocked.{correct_open}
use Rattle.paper_texts.specs.NestTexts.{read_nest}
use Rattle.paper_texts.specs.PlacementTexts.{read_placement}
use Rattle.paper_texts.proofs.Accepted.{accepted_valid}
use Rattle.paper_texts.proofs.PlacedTexts.{read_gaps, read_avoids}
use Rattle.plan_theorem.specs.KeyOf.{key_of}
use Rattle.plan_theorem.proofs.KeyIsKey.{key_is_key}

module _
    (n : Nest) (valid : is_valid n ≡ true) (unblocked : is_blocked n ≡ false) (gs : List ℕ)
    (gaps : are_gaps n gs ≡ true) (avoiding : avoids n.barred gs ≡ true)
  where
    key : IsKey n (key_of n)
    key = key_is_key n valid unblocked

    -- 01, "The desk": Best is said of the keys, and of nothing else
    pub best_iff_key : (mark_of n (key_of n) gs ≡ Best) ↔ IsKey n gs
    best_iff_key = Verdicts.best_iff_key n (valid_is n valid).shape (key_of n) gs key gaps avoiding

    -- 01, "The desk": in a Dearer their count is the greater
    pub dearer_greater
        : (loop theirs ours : ℕ)
        → mark_of n (key_of n) gs ≡ Dearer loop theirs ours
        → IsDearer n (key_of n) gs loop theirs ours
    dearer_greater = Verdicts.dearer_greater n (valid_is n valid).shape (key_of n) gs key gaps avoiding

-- keys have equal counts, so the first loop that differs and its counts are the same beside each
module _ (n : Nest) (shape : is_shape n.points ≡ true) (j k gs : List ℕ) (same : SameCounts n j k) where
  differ_same
      : (ds : List ℕ)
      → ((d : ℕ) → is_in d ds ≡ true → is_do n.points d ≡ true)
      → differ_from n j gs ds ≡ differ_from n k gs ds
  differ_same [] h = refl
  differ_same (d ∷ ds) h = rw (same d (h d (in_here d ds)), differ_same ds (λ x m. h x (in_later x d ds m)))

  verdict_same : (u d : ℕ) → differ n j gs ≡ d → verdict_by n j gs u d ≡ verdict_by n k gs u d
  verdict_same (suc u) d e = refl
  verdict_same zero zero e = refl
  verdict_same zero (suc d) e = rw (same d (differ_at n shape j gs d e).loop)

  mark_same : mark_of n j gs ≡ mark_of n k gs
  mark_same =
      verdict_same (uncut n gs) (differ n j gs) refl ∙
      ap (verdict_by n k gs (uncut n gs)) (differ_same (loops_of n) (listed_loop n shape))

-- 01, "What the contracts must say", a: which key it is decides no verdict
pub mark_determined
    : (n : Nest) (key gs : List ℕ)
    → is_valid n ≡ true
    → IsKey n key
    → mark_of n key gs ≡ mark_of n (key_of n) gs
mark_determined n key gs valid k =
    let shape = (valid_is n valid).shape in
    let made = key_is_key n valid (correct_open n key k.correct) in
    mark_same n shape key (key_of n) gs (keys_agree n shape key (key_of n) k made)

-- of an accepted nest text, and of what is read from a placement text
module _
    (s t : List ℕ) (accepted : (read_nest s).number ≡ 0) (unblocked : is_blocked (read_nest s).nest_is ≡ false) where
  abbrev n : Nest
  n = (read_nest s).nest_is

  abbrev gs : List ℕ
  gs = (read_placement (length n.points) n.barred t).gaps

  pub marked_best : (mark_of n (key_of n) gs ≡ Best) ↔ IsKey n gs
  marked_best =
      best_iff_key n (accepted_valid s accepted) unblocked gs (read_gaps (length n.points) n.barred t)
      (read_avoids (length n.points) n.barred t)

  pub marked_dearer
      : (loop theirs ours : ℕ)
      → mark_of n (key_of n) gs ≡ Dearer loop theirs ours
      → IsDearer n (key_of n) gs loop theirs ours
  marked_dearer =
      dearer_greater n (accepted_valid s accepted) unblocked gs (read_gaps (length n.points) n.barred t)
      (read_avoids (length n.points) n.barred t)
