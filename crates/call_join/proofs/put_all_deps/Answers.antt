-- `put_all_deps` meets its contract: the first paper's dependences, then the second's as the last part. The second nest
-- begins one point after the last of the first.
use mathlib.Core.Path.{◌≡◌, ap, ◌∙◌}
use mathlib.Core.List.{List, ◌++◌}
use mathlib.Core.Bool.{false}
use Prim.Native.Nat.{ℕ, ◌+◌, ◌≤◌}
use native.Mathlib.Omega.{arith}
use lib.ListN.{length}
use borrow.Author.Rules.{rules}
use Rattle.paper_nests.specs.Stored.{nest_in}
use Rattle.paper_lines.specs.Writing.{over}
use Rattle.call_join.specs.declared.Both as DB
use Rattle.call_join.specs.JointNests.{moved_deps, second_at, exceeds}
use Rattle.call_join.specs.Written.{joint_in, deps_text, StayBytes, Writes}
use Rattle.call_join.proofs.JointTexts.{joint_deps, stay_first, stay_second, second_byte}
use Rattle.call_join.proofs.LastPart.{first_fits, Begun, begun_by}
use Rattle.call_join.proofs.LastPart.{rest_within, rest_fits, last_within, last_length, last_written}
use Rattle.call_join.proofs.put_all_deps.Goals as goal

module _ (b : DB.Both) where
  -- the dependences of the joint nest as text, and those of the two papers
  abbrev whole : List ℕ
  whole = deps_text (joint_in b.n.now b.m.now).deps

  abbrev first : List ℕ
  first = deps_text (moved_deps 1 (nest_in b.n.now).deps)

  abbrev second : ℕ → List ℕ
  second k = deps_text (moved_deps k (nest_in b.m.now).deps)

  abbrev at_second : ℕ
  at_second = second_at (nest_in b.n.now)

  begins : b.n.now.count + 1 ≡ at_second
  begins = omega (arith, b.first_counted.count_is)

  parts : whole ≡ first ++ second at_second
  parts = joint_deps (moved_deps 1 (nest_in b.n.now).deps) (moved_deps at_second (nest_in b.m.now).deps)

  byte : exceeds (nest_in b.n.now) (nest_in b.m.now) ≡ false → b.n.now.count + 1 ≤ 255
  byte h = omega (arith, begins, second_byte (nest_in b.n.now) (nest_in b.m.now) b.papers h)

  -- the first paper's are written
  begun : {o out : List ℕ} {at : ℕ} → length whole ≤ length o → Writes first o out at →
      Begun whole (second at_second) o out at
  begun room w = begun_by first parts room w.0 w.1

  -- the second paper's, moved along by as many points
  moved_on : (o out : List ℕ) (r : ℕ) → Writes (second (b.n.now.count + 1)) o out r → Writes (second at_second) o out r
  moved_on o out r w = (w.0 ∙ ap (λ (k : ℕ). length (second k)) begins, w.1 ∙ ap (λ (k : ℕ). over (second k) o) begins)

pub put_deps-at-requires : goal.put_deps-at-requires
put_deps-at-requires c =
    let b = c.args.both.now in
    record {
      counted = b.first_counted;
      stay_bytes = stay_first (nest_in b.n.now) (nest_in b.m.now) b.papers c.requires.fits;
      room = first_fits (whole b) (first b) (second b (at_second b)) c.args.out.now (parts b) c.requires.room;
    }

pub overflow_add-both : goal.overflow_add-both
overflow_add-both c = omega (arith, byte c.args.both.now c.requires.fits)

pub overflow_cast-both : goal.overflow_cast-both
overflow_cast-both c = omega (arith, byte c.args.both.now c.requires.fits)

pub slice_bounds-put_deps-count : goal.slice_bounds-put_deps-count
slice_bounds-put_deps-count c =
    let now = begun c.args.both.now c.requires.room c.put_deps-at.ensures in
    rest_within now

pub slice_bounds-put_deps-start : goal.slice_bounds-put_deps-start
slice_bounds-put_deps-start c =
    let now = begun c.args.both.now c.requires.room c.put_deps-at.ensures in
    let z = rest_within now in
    search rules

pub slice_bounds-put_deps-end : goal.slice_bounds-put_deps-end
slice_bounds-put_deps-end c =
    let now = begun c.args.both.now c.requires.room c.put_deps-at.ensures in
    let z = rest_within now in
    search rules

pub put_deps-requires : goal.put_deps-requires
put_deps-requires c =
    let b = c.args.both.now in
    let now = begun c.args.both.now c.requires.room c.put_deps-at.ensures in
    let stays : StayBytes (b.n.now.count + 1) (nest_in b.m.now).deps =
    rw (begins b) (stay_second (nest_in b.n.now) (nest_in b.m.now) b.papers c.requires.fits) in
    record {
      counted = b.second_counted;
      stay_bytes = stays;
      room = omega (arith, rest_fits now, ap (λ (k : ℕ). length (second b k)) (begins b));
    }

pub overflow_add-result : goal.overflow_add-result
overflow_add-result c =
    let now = begun c.args.both.now c.requires.room c.put_deps-at.ensures in
    let w = moved_on c.args.both.now _ _ _ c.put_deps.ensures in
    omega (arith, last_within now w.0 w.1)

pub shape_of-out : goal.shape_of-out
shape_of-out c =
    let now = begun c.args.both.now c.requires.room c.put_deps-at.ensures in
    let w = moved_on c.args.both.now _ _ _ c.put_deps.ensures in
    last_length now w.0 w.1

pub returns : goal.returns
returns c =
    let now = begun c.args.both.now c.requires.room c.put_deps-at.ensures in
    let w = moved_on c.args.both.now _ _ _ c.put_deps.ensures in
    last_written now w.0 w.1
