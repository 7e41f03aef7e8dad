-- An argument holds exactly if every line of its text does.
-- Main statements: `judged_holds`, `text_holds`.
use mathlib.Core.Path.{◌≡◌, refl, sym, ◌∙◌}
use mathlib.Core.Bool.{Bool, true, false, ◌&&◌, ◌||◌, not}
use mathlib.Core.List.{List, [], ◌∷◌, ◌++◌}
use Prim.Native.Nat.{ℕ, zero, suc, ◌<◌}
use native.Mathlib.Omega.{arith}
use lib.Dec.{eqb}
use lib.ListN.{length}
use borrow.Author.Tests.{eqb-true, eqb-false, ne_eqb}
use Rattle.laws.specs.Choice.{pick, when}
use Rattle.laws.proofs.Tests.{never}
use Rattle.laws.proofs.Choices.{first_zero}
use Rattle.paper_nests.specs.Nests.{Nest}
use Rattle.paper_nests.specs.Loops.{is_do}
use Rattle.paper_lines.specs.Lines.{Line, lines_of, is_good, frame_of}
use Rattle.paper_placements.specs.Placements.{is_correct}
use Rattle.argue_claims.specs.Arguments.{Step, Claim, Known, Count, claim, step, run, begun, ended, known_of}
use Rattle.argue_claims.specs.Arguments.{all_low, all_hold, holds}
use Rattle.argue_texts.specs.ArgumentTexts.{Part, Claims, By, Names, Unknown, part_of, part_fault, progress, after}
use Rattle.argue_texts.specs.ArgumentTexts.{argue_fault, fault, fault_from, argument_fault, parts_of, Rest, rest_of}
use Rattle.argue_texts.specs.ArgumentTexts.{claims_in}
use Rattle.argue_texts.specs.Judged.{Judging, unbegun, known_now, opened, led_by, counting, stepped}
use Rattle.argue_texts.specs.Judged.{judge_from, judged}

-- a claim comes before every step
abbrev pub begins : ℕ → List Part → Bool
begins (suc l) ps = true
begins zero [] = true
begins zero (Claims d a b ∷ ps) = true
begins zero (By m ∷ ps) = false
begins zero (Names s ∷ ps) = false
begins zero (Unknown ∷ ps) = false

begins_at : (k : ℕ) (ps : List Part) → 0 < k → begins k ps ≡ true
begins_at zero ps h = absurd (omega arith)
begins_at (suc k) ps h = refl

by_begins : (l m : ℕ) (ps : List Part) → begins l (By m ∷ ps) ≡ true → (begins l ps ≡ true) × (eqb l 0 ≡ false)
by_begins zero m ps h = never h
by_begins (suc l) m ps h = (refl, ne_eqb (suc l) 0 (omega arith))

names_begins : (l s : ℕ) (ps : List Part) → begins l (Names s ∷ ps) ≡ true → (begins l ps ≡ true) × (eqb l 0 ≡ false)
names_begins zero s ps h = never h
names_begins (suc l) s ps h = (refl, ne_eqb (suc l) 0 (omega arith))

unknown_begins : (l : ℕ) (ps : List Part) → begins l (Unknown ∷ ps) ≡ true → (begins l ps ≡ true) × (eqb l 0 ≡ false)
unknown_begins zero ps h = never h
unknown_begins (suc l) ps h = (refl, ne_eqb (suc l) 0 (omega arith))

both_false : (a b c : Bool) → b ≡ false → (a && (b && c)) ≡ false
both_false true b c h = rw h refl
both_false false b c h = refl

module _ (n : Nest) (key : List ℕ) where
  -- a step that does not hold is not mended by those behind it
  run_unfine
      : (k : Claim) (ks : List Known) (ss : List Step) (x : Count)
      → x.fine ≡ false
      → (run n key k ks ss x).fine ≡ false
  run_unfine k ks [] x h = h
  run_unfine k ks (s ∷ ss) x h = run_unfine k ks ss (step n key k ks s x) (rw h refl)

  unfine_ended : (k : Claim) (x : Count) → x.fine ≡ false → ended n key k x ≡ false
  unfine_ended k x h = rw h refl

  undone_ended : (k : Claim) (x : Count) → is_do n.points k.loop ≡ false → ended n key k x ≡ false
  undone_ended k x h = both_false x.fine (is_do n.points k.loop) _ h

  -- whether the open claim and the claims behind it hold
  abbrev holds_on : Judging → Rest → Bool
  holds_on x r =
      pick (eqb x.line 0) (all_hold n key [] r.claims)
      (ended n key x.open_is (run n key x.open_is x.known r.steps x.count) &&
      all_hold n key
      (x.known ++ (known_of n key x.open_is (run n key x.open_is x.known r.steps x.count) ∷ []))
      r.claims)

  -- the next claim, opened
  open_on
      : (k d a b : ℕ) (x : Judging) (ks : List Known) (r : Rest)
      → 0 < k
      → known_now n key x ≡ ks
      → holds_on (opened n key k (claim d a b r.steps) x) r ≡ all_hold n key ks (claim d a b r.steps ∷ r.claims)
  open_on k d a b x ks r pos e = rw (ne_eqb k 0 (omega (arith, pos)), e) refl

  no_loop
      : (ks : List Known) (d a b : ℕ) (r : Rest)
      → is_do n.points d ≡ false
      → all_hold n key ks (claim d a b r.steps ∷ r.claims) ≡ false
  no_loop ks d a b r h =
      let k = claim d a b r.steps in
      rw (undone_ended k (run n key k ks r.steps (begun)) h) refl

  unfine_on : (x : Judging) (r : Rest) → eqb x.line 0 ≡ false → x.count.fine ≡ false → holds_on x r ≡ false
  unfine_on x r z e =
      let last = run n key x.open_is x.known r.steps x.count in
      rw (z, unfine_ended x.open_is last (run_unfine x.open_is x.known r.steps x.count e)) refl

  judge_on
      : (k : ℕ) (x : Judging) (ps : List Part)
      → 0 < k
      → begins x.line ps ≡ true
      → eqb (judge_from n key k x ps) 0 ≡ holds_on x (rest_of x.by ps)
  unfolding judge_from rest_of
  judge_on k x [] pos h = go (eqb x.line 0) refl (ended n key x.open_is x.count) refl
    where
      go
          : (z : Bool)
          → eqb x.line 0 ≡ z
          → (e : Bool)
          → ended n key x.open_is x.count ≡ e
          → eqb
          (pick (z || e)
          (pick
          (all_low n key (pick z [] (x.known ++ (known_of n key x.open_is x.count ∷ []))) (length n.points))
          0 k)
          x.line)
          0
          ≡ pick z (all_low n key [] (length n.points))
          (e && all_low n key (x.known ++ (known_of n key x.open_is x.count ∷ [])) (length n.points))
      go true p e q = low (all_low n key [] (length n.points))
        where
          low : (b : Bool) → eqb (pick b 0 k) 0 ≡ b
          low true = refl
          low false = ne_eqb k 0 (omega (arith, pos))
      go false p true q =
          low (all_low n key (x.known ++ (known_of n key x.open_is x.count ∷ [])) (length n.points))
        where
          low : (b : Bool) → eqb (pick b 0 k) 0 ≡ b
          low true = refl
          low false = ne_eqb k 0 (omega (arith, pos))
      go false p false q = p
  judge_on k x (Claims d a b ∷ ps) pos h =
      go (eqb x.line 0) refl (ended n key x.open_is x.count) refl (is_do n.points d) refl
      (judge_on (suc k) (opened n key k (claim d a b (rest_of 0 ps).steps) x) ps (omega arith) (begins_at k ps pos))
    where
      c : Claim
      c = claim d a b (rest_of 0 ps).steps

      now : List Known
      now = x.known ++ (known_of n key x.open_is x.count ∷ [])

      go
          : (z : Bool)
          → eqb x.line 0 ≡ z
          → (e : Bool)
          → ended n key x.open_is x.count ≡ e
          → (t : Bool)
          → is_do n.points d ≡ t
          → eqb (judge_from n key (suc k) (opened n key k (claim d a b (rest_of 0 ps).steps) x) ps) 0
          ≡ holds_on (opened n key k (claim d a b (rest_of 0 ps).steps) x) (rest_of 0 ps)
          → eqb
          (pick (z || e)
          (pick t (judge_from n key (suc k) (opened n key k (claim d a b (rest_of 0 ps).steps) x) ps) k) x.line)
          0
          ≡ pick z (all_hold n key [] (claim d a b (rest_of 0 ps).steps ∷ (rest_of 0 ps).claims))
          (e && all_hold n key (x.known ++ (known_of n key x.open_is x.count ∷ []))
          (claim d a b (rest_of 0 ps).steps ∷ (rest_of 0 ps).claims))
      go true p e q true r ih = ih ∙ open_on k d a b x [] (rest_of 0 ps) pos (rw p refl)
      go true p e q false r ih = ne_eqb k 0 (omega (arith, pos)) ∙ sym (no_loop [] d a b (rest_of 0 ps) r)
      go false p true q true r ih =
          ih ∙
          open_on k d a b x (x.known ++ (known_of n key x.open_is x.count ∷ [])) (rest_of 0 ps) pos (rw p refl)
      go false p true q false r ih =
          ne_eqb k 0 (omega (arith, pos)) ∙
          sym (no_loop (x.known ++ (known_of n key x.open_is x.count ∷ [])) d a b (rest_of 0 ps) r)
      go false p false q t r ih = p
  judge_on k x (By m ∷ ps) pos h = judge_on (suc k) (led_by m x) ps (omega arith) (by_begins x.line m ps h).0
  judge_on k x (Names s ∷ ps) pos h =
      go (counting n key s x).fine refl (names_begins x.line s ps h)
      (judge_on (suc k) (stepped n key s x) ps (omega arith) (names_begins x.line s ps h).0)
    where
      go
          : (t : Bool)
          → (counting n key s x).fine ≡ t
          → (begins x.line ps ≡ true) × (eqb x.line 0 ≡ false)
          → eqb (judge_from n key (suc k) (stepped n key s x) ps) 0 ≡ holds_on (stepped n key s x) (rest_of 0 ps)
          → eqb (pick t (judge_from n key (suc k) (stepped n key s x) ps) k) 0
          ≡ holds_on (stepped n key s x) (rest_of 0 ps)
      go true e z ih = ih
      go false e z ih =
          ne_eqb k 0 (omega (arith, pos)) ∙ sym (unfine_on (stepped n key s x) (rest_of 0 ps) z.1 e)
  judge_on k x (Unknown ∷ ps) pos h = judge_on (suc k) x ps (omega arith) (unknown_begins x.line ps h).0

  -- of a text whose first line is a claim: the argument holds if and only if no line does not
  pub judged_holds
      : (ps : List Part)
      → begins 0 ps ≡ true
      → eqb (judged n key ps) 0 ≡ all_hold n key [] (rest_of 0 ps).claims
  unfolding judged
  judged_holds ps h = judge_on 1 unbegun ps (omega arith) h

-- the first line of an accepted text is a claim
accepted_begins : (k : ℕ) (ls : List Line) → (fault_from k (progress 0 0 0) ls).number ≡ 0 → begins 0 (parts_of ls) ≡ true
unfolding fault_from
accepted_begins k [] h = refl
accepted_begins k (l ∷ ls) h = go (eqb (argue_fault (progress 0 0 0) l) 0) refl h
  where
    first : (p : Part) → part_fault (progress 0 0 0) p ≡ 0 → begins 0 (p ∷ parts_of ls) ≡ true
    first (Claims d a b) e = refl
    first (By m) e = absurd (omega (arith, e))
    first (Names s) e = absurd (omega (arith, e))
    first Unknown e = absurd (omega (arith, e))

    go
        : (t : Bool)
        → eqb (argue_fault (progress 0 0 0) l) 0 ≡ t
        → (pick t (fault_from (suc k) (after (progress 0 0 0) (part_of (frame_of l.bytes))) ls)
        (fault (argue_fault (progress 0 0 0) l) k)).number ≡ 0
        → begins 0 (parts_of (l ∷ ls)) ≡ true
    go true e q =
        let z = eqb-true (argue_fault (progress 0 0 0) l) 0 e in
        first (part_of (frame_of l.bytes))
        (first_zero (when (not (is_good l)) 1) (part_fault (progress 0 0 0) (part_of (frame_of l.bytes))) z).1
    go false e q = absurd (eqb-false (argue_fault (progress 0 0 0) l) 0 e q)

-- of a text that is read: its argument holds exactly if the placement is correct and no line does not hold
pub text_holds
    : (n : Nest) (key s : List ℕ)
    → (argument_fault s).number ≡ 0
    → (is_correct n key && eqb (judged n key (parts_of (lines_of s))) 0) ≡ holds n key (claims_in s)
unfolding argument_fault claims_in
text_holds n key s h =
    rw (judged_holds n key (parts_of (lines_of s)) (accepted_begins 1 (lines_of s) h)) refl
