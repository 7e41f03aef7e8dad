-- The steps at a child, case by case, and the text of one step.
-- Main statements: `one_step`, `event_none`, `event_led`, `event_passed`, `event_lacks`, `event_behind`.
use mathlib.Core.Path.{◌≡◌, refl, sym, ◌∙◌, ap}
use mathlib.Core.List.{List, [], ◌∷◌, ◌++◌, append-nil, append_assoc}
use Prim.Native.Nat.{ℕ, suc, ◌≤◌, ◌<◌}
use native.Mathlib.Omega.{arith}
use borrow.Author.Tests.{eq-eqb, ne_eqb, lt-ltb, le-ltb, le-leb, lt-leb}
use Rattle.paper_lines.specs.Lines.{line_text}
use Rattle.argue_claims.specs.Arguments.{Step, st}
use Rattle.argue_texts.specs.ArgumentTexts.{set_frame, by_text, steps_text}
use Rattle.argue_key.specs.Laps.{event_at}
use Rattle.argue_spell.specs.Added.{step_text, Added}
use Rattle.argue_spell.proofs.Adding.{added_none, added_as}

-- one step, and steps one after the other
pub one_step : (s : Step) → step_text s ≡ steps_text (s ∷ [])
unfolding steps_text
one_step s = ap (λ (x : List ℕ). by_text s.via ++ x) (sym (append-nil (line_text (set_frame s.set))))

pub steps_append : (a b : List Step) → steps_text (a ++ b) ≡ steps_text a ++ steps_text b
unfolding steps_text
steps_append [] b = refl
steps_append (s ∷ a) b =
    ap (λ (x : List ℕ). by_text s.via ++ (line_text (set_frame s.set) ++ x)) (steps_append a b) ∙
    ap (λ (x : List ℕ). by_text s.via ++ x) (sym (append_assoc (line_text (set_frame s.set)) (steps_text a) (steps_text b))) ∙
    sym (append_assoc (by_text s.via) (line_text (set_frame s.set) ++ steps_text a) (steps_text b))

module _ (left set lead : ℕ → ℕ) (l p b : ℕ) where
  pub event_none : b ≡ 0 → event_at left set lead l p b ≡ []
  unfolding event_at
  event_none z = rw (eq-eqb b 0 z)

  module _ (n : b ≡ 0 → ⊥) where
    pub event_led : b ≤ p → suc l < left b → event_at left set lead l p b ≡ st (set b) (suc (lead b)) ∷ []
    unfolding event_at
    event_led h k = rw (ne_eqb b 0 n, le-leb b p h, lt-ltb 0 (left b) (omega arith), lt-ltb (suc l) (left b) k)

    pub event_passed : b ≤ p → 0 < left b → left b ≤ suc l → event_at left set lead l p b ≡ []
    unfolding event_at
    event_passed h k m = rw (ne_eqb b 0 n, le-leb b p h, lt-ltb 0 (left b) k, le-ltb (suc l) (left b) m)

    pub event_lacks : b ≤ p → left b ≤ 0 → event_at left set lead l p b ≡ st (set b) 0 ∷ []
    unfolding event_at
    event_lacks h k = rw (ne_eqb b 0 n, le-leb b p h, le-ltb 0 (left b) k)

    pub event_behind : p < b → event_at left set lead l p b ≡ st (set b) 0 ∷ []
    unfolding event_at
    event_behind h = rw (ne_eqb b 0 n, lt-leb b p h)

-- what is added where nothing is to do, and where there is one step
pub adds_none : {e : List Step} {at : ℕ} {out : List ℕ} → e ≡ [] → Added (steps_text e) at out out at
unfolding steps_text
adds_none {at = at} {out} z = rw z (added_none at out)

pub adds_one : {e : List Step} {s : Step} {at next : ℕ} {out out' : List ℕ} → e ≡ s ∷ [] →
    Added (step_text s) at out out' next → Added (steps_text e) at out out' next
adds_one {s = s} z a = rw z (added_as (one_step s) a)
