-- What a call of `settle` has: what it requires, and the numbers that it stays below.
-- Main definition: `Call`. Main statement: `called`.
use mathlib.Core.Path.{◌≡◌}
use mathlib.Core.Bool.{true}
use mathlib.Core.List.{List}
use Prim.Native.Nat.{ℕ, ◌≤◌, ◌<◌}
use native.Mathlib.Omega.{arith}
use lib.ListN.{length}
use Rattle.laws.specs.Entries.{at}
use Rattle.paper_nests.specs.Kinds.{DEPTH}
use Rattle.paper_nests.specs.Loops.{is_do, end_of}
use Rattle.paper_nests.proofs.Loops.{end-after, end_there}
use Rattle.plan_settle.specs.Settled.{HasHeight, Charts, Room, Unset}
use Rattle.plan_settle.proofs.Heights.{height_low, height_high}

-- what a call requires
abbrev pub Asked
    : List ℕ → List ℕ → List ℕ → List ℕ → List ℕ → List ℕ → List ℕ → List ℕ → ℕ → ℕ → Type 0
Asked ps own ends reach limit has left choice d h =
    Charts ps own ends × (Room reach limit has left choice × ((is_do ps d ≡ true) ×
    (HasHeight ps d h × (Unset left d (end_of ps d) × Unset choice d (end_of ps d)))))

pub record Call (ps own ends reach limit has left choice : List ℕ) (d h : ℕ) : Type 0 where
  pub charts : Charts ps own ends
  pub room : Room reach limit has left choice
  pub is-do : is_do ps d ≡ true
  pub height : HasHeight ps d h
  pub left_unset : Unset left d (end_of ps d)
  pub choice_unset : Unset choice d (end_of ps d)
  pub e_is : at ends d ≡ end_of ps d
  pub long : d < at ends d
  pub short : at ends d < length ps
  pub low : 0 < h
  pub high : h ≤ DEPTH

pub called
    : {ps own ends reach limit has left choice : List ℕ} {d h : ℕ}
    → Charts ps own ends
    → Room reach limit has left choice
    → is_do ps d ≡ true
    → HasHeight ps d h
    → Unset left d (end_of ps d)
    → Unset choice d (end_of ps d)
    → Call ps own ends reach limit has left choice d h
called {ps} {d = d} {h = h} w room i height left_unset choice_unset =
    record {
      charts = w;
      room = room;
      is-do = i;
      height = height;
      left_unset = left_unset;
      choice_unset = choice_unset;
      e_is = w.ends_is d i;
      long = omega (arith, w.ends_is d i, end-after ps w.shape d i);
      short = omega (arith, w.ends_is d i, end_there ps w.shape d i);
      low = height_low ps w.shape d h i height;
      high = height_high ps d h height;
    }
