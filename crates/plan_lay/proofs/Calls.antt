-- What a call of `lay` has: what it requires, and the numbers that it stays below.
-- Main definition: `Call`. Main statements: `called`, `picked`.
use mathlib.Core.Path.{◌≡◌}
use mathlib.Core.Bool.{true}
use mathlib.Core.List.{List}
use Prim.Native.Nat.{ℕ, ◌*◌, ◌≤◌, ◌<◌}
use native.Mathlib.Omega.{arith}
use lib.ListN.{length}
use Rattle.laws.specs.Entries.{at}
use Rattle.paper_nests.specs.Kinds.{DEPTH}
use Rattle.paper_nests.specs.Loops.{is_do, end_of}
use Rattle.paper_nests.proofs.Loops.{end-after, end_there}
use Rattle.plan_sweeps.specs.Listed.{row}
use Rattle.plan_settle.specs.Settled.{HasHeight, Charts}
use Rattle.plan_settle.proofs.Heights.{height_low, height_high}
use Rattle.plan_lay.specs.Laid.{LayRoom, Choices}

-- what a call requires
abbrev pub Asked : List ℕ → List ℕ → List ℕ → List ℕ → List ℕ → List ℕ → List ℕ → ℕ → ℕ → ℕ → Type 0
Asked ps own ends reach limit left choice d q h =
    Charts ps own ends ×
    (LayRoom reach limit left choice ×
    ((is_do ps d ≡ true) ×
    (HasHeight ps d h × ((d < q) × ((q ≤ end_of ps d) × Choices ps left choice d (end_of ps d))))))

pub record Call (ps own ends reach limit left choice : List ℕ) (d q h : ℕ) : Type 0 where
  pub charts : Charts ps own ends
  pub room : LayRoom reach limit left choice
  pub is-do : is_do ps d ≡ true
  pub height : HasHeight ps d h
  pub after : d < q
  pub within : q ≤ end_of ps d
  pub choices : Choices ps left choice d (end_of ps d)
  pub e_is : at ends d ≡ end_of ps d
  pub long : d < at ends d
  pub short : at ends d < length ps
  pub low : 0 < h
  pub high : h ≤ DEPTH

pub called
    : {ps own ends reach limit left choice : List ℕ} {d q h : ℕ}
    → Charts ps own ends
    → LayRoom reach limit left choice
    → is_do ps d ≡ true
    → HasHeight ps d h
    → d < q
    → q ≤ end_of ps d
    → Choices ps left choice d (end_of ps d)
    → Call ps own ends reach limit left choice d q h
called {ps} {d = d} {h = h} w room i height after within choices =
    record {
      charts = w;
      room = room;
      is-do = i;
      height = height;
      after = after;
      within = within;
      choices = choices;
      e_is = w.ends_is d i;
      long = omega (arith, w.ends_is d i, end-after ps w.shape d i);
      short = omega (arith, w.ends_is d i, end_there ps w.shape d i);
      low = height_low ps w.shape d h i height;
      high = height_high ps d h height;
    }

-- the suffix that is chosen
pub picked
    : {ps own ends reach limit left choice : List ℕ} {d q h : ℕ}
    → Call ps own ends reach limit left choice d q h
    → (row left (h * 256) q ≡ 0 → ⊥)
    → (d < row choice (h * 256) q) × (row choice (h * 256) q ≤ at ends d)
picked {d = d} {q = q} {h = h} a some =
    let z = a.choices d h q a.is-do (omega arith) (omega (arith, a.e_is, a.long)) a.height a.after
    a.within (omega (arith, some)) in
    (z.0, omega (arith, z.1, a.e_is))
