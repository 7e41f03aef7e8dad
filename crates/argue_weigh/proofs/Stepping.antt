-- A step over tables is the step of the definition: what the loops inside exclude is one number a gap, what is known to
-- be empty one set, and how often a gap was named one number a gap.
-- Main statements: `StepTables`, `step_fine`, `step_named`.
use mathlib.Core.Path.{◌≡◌, refl, sym, ap, ◌∙◌}
use mathlib.Core.Bool.{Bool, true, false, ◌&&◌, ◌||◌, not}
use mathlib.Core.List.{List}
use mathlib.Core.Logic.{⊎_elim}
use Prim.Native.Nat.{ℕ, zero, suc, ◌≤◌, ◌<◌}
use native.Mathlib.Omega.{arith}
use lib.Dec.{eqb, ltb, leb}
use lib.ListN.{length}
use borrow.Author.Tests.{lt-ltb, le-ltb, le-leb, lt-leb}
use Rattle.laws.specs.Choice.{is_in}
use Rattle.laws.specs.Entries.{at}
use Rattle.laws.proofs.Tests.{never, le_or}
use Rattle.paper_nests.specs.Nests.{Nest}
use Rattle.paper_nests.specs.Loops.{end_of, owner_of, is_around}
use Rattle.paper_placements.specs.Placements.{loop_count}
use Rattle.paper_placements.specs.Words.{holds}
use Rattle.argue_claims.specs.Arguments.{Step, Claim, Known, Count, every, named, fact_out, known_out, in_set, leads}
use Rattle.argue_claims.specs.Arguments.{is_left}
use Rattle.argue_claims.proofs.Lots.{every_at}
use Rattle.argue_weigh.specs.Naming.{left_at, fine_at, Named}
use Rattle.argue_weigh.specs.Excluding.{excluded_in}

leb_not : (a b : ℕ) → leb a b ≡ not (ltb b a)
leb_not a b =
    ⊎_elim (λ (p : a ≤ b). rw (le-leb a b p, le-ltb b a p) refl) (λ (p : b < a). rw (lt-leb a b p, lt-ltb b a p) refl)
    (le_or a b)

-- what is known to be empty may stand with what leads
shuffle
    : (b z f k l : Bool) → (not (b || (z || k)) && not (f || l)) ≡ (not (b || (z || (f || k))) && not l)
shuffle true z f k l = refl
shuffle false true f k l = refl
shuffle false false true true l = refl
shuffle false false true false l = refl
shuffle false false false k l = refl

every_alike : (f h : ℕ → Bool) (n : ℕ) → ((g : ℕ) → 0 < g → g ≤ n → f g ≡ h g) → every f n ≡ every h n
every_alike f h zero same = refl
every_alike f h (suc n) same =
    let here : f (suc n) ≡ h (suc n) = same (suc n) (omega arith) (omega arith) in
    let before : every f n ≡ every h n = every_alike f h n (λ g p q. same g p (omega (arith, q))) in
    rw (here, before) refl

module _ (n : Nest) (key : List ℕ) (k : Claim) (ks : List Known) (x : Count) (s : Step) where
  -- what the definition asks of each gap
  abbrev pub asked : ℕ → Bool
  asked g =
      (not (in_set n key k s.set g) || is_around n.points g k.loop) &&
      (not (is_left n key k ks x.facts s g) || eqb (owner_of n.points g) k.loop)

  -- the tables say what the definition does of the gaps 1 to `last`, which are all
  pub record StepTables (last : ℕ) (ws gone owners struck : List ℕ) : Type 0 where
    pub all : length n.points ≡ suc last
    pub ends : end_of n.points k.loop ≤ last
    pub set_is : (g : ℕ) → 0 < g → g ≤ last → holds ws g ≡ in_set n key k s.set g
    pub set_ends : in_set n key k s.set (suc last) ≡ false
    pub owners_are : (g : ℕ) → g ≤ last → at owners g ≡ owner_of n.points g
    pub gone_is
        : (g : ℕ)
        → is_around n.points g k.loop ≡ true
        → holds gone g ≡ (fact_out n key x.facts g || leads n key ks s.via g)
    pub struck_is
        : (g : ℕ) → is_around n.points g k.loop ≡ true → ltb (suc k.loop) (at struck g) ≡ excluded_in n key k.loop ks g

  module _ {last : ℕ} {ws gone owners struck : List ℕ} (t : StepTables last ws gone owners struck) where
    left_alike
        : (g : ℕ)
        → 0 < g
        → g ≤ last
        → is_around n.points g k.loop ≡ true
        → left_at ws gone struck k.loop g ≡ is_left n key k ks x.facts s g
    left_alike g p q a =
        rw
        (t.set_is g p q, leb_not (at struck g) (suc k.loop), t.struck_is g a, t.gone_is g a)
        (ap (λ (b : Bool). in_set n key k s.set g && b)
        (shuffle (is_in g n.barred)
        (not (eqb (owner_of n.points g) k.loop) && eqb (loop_count n key (owner_of n.points g)) 0)
        (fact_out n key x.facts g) (known_out n key k.loop ks g) (leads n key ks s.via g)))

    fine_alike
        : (g : ℕ)
        → 0 < g
        → g ≤ last
        → fine_at ws gone owners struck k.loop (end_of n.points k.loop) g ≡ asked g
    fine_alike g p q = go (in_set n key k s.set g) refl (is_around n.points g k.loop) refl
      where
        go
            : (i : Bool)
            → in_set n key k s.set g ≡ i
            → (a : Bool)
            → is_around n.points g k.loop ≡ a
            → fine_at ws gone owners struck k.loop (end_of n.points k.loop) g ≡ asked g
        go false h a z = rw (t.set_is g p q, h) refl
        go true h false z = rw (t.set_is g p q, h, z) refl
        go true h true z =
            let l : left_at ws gone struck k.loop g ≡ is_left n key k ks x.facts s g = left_alike g p q z in
            rw (l, t.owners_are g q, t.set_is g p q) refl

    -- the gap behind the last asks for nothing
    asked_end : asked (suc last) ≡ true
    asked_end = rw t.set_ends refl

    -- the step holds
    pub step_fine
        : every (fine_at ws gone owners struck k.loop (end_of n.points k.loop)) last
        ≡ every asked (length n.points)
    step_fine =
        every_alike (fine_at ws gone owners struck k.loop (end_of n.points k.loop)) asked last fine_alike ∙
        sym (rw t.all (rw asked_end refl))

    left_same
        : (g : ℕ)
        → 0 < g
        → g ≤ last
        → asked g ≡ true
        → left_at ws gone struck k.loop g ≡ is_left n key k ks x.facts s g
    left_same g p q f = go (in_set n key k s.set g) refl (is_around n.points g k.loop) refl
      where
        go
            : (i : Bool)
            → in_set n key k s.set g ≡ i
            → (a : Bool)
            → is_around n.points g k.loop ≡ a
            → left_at ws gone struck k.loop g ≡ is_left n key k ks x.facts s g
        go false h a z = rw (t.set_is g p q, h) refl
        go true h false z = never (sym (unfit h z) ∙ f)
          where
            unfit : in_set n key k s.set g ≡ true → is_around n.points g k.loop ≡ false → asked g ≡ false
            unfit i b = rw (i, b) refl
        go true h true z = left_alike g p q z

    -- where the step holds, each gap is named as often as the definition says
    pub step_named
        : (old new : List ℕ)
        → every (fine_at ws gone owners struck k.loop (end_of n.points k.loop)) last ≡ true
        → Named (left_at ws gone struck k.loop) last old new
        → ((g : ℕ) → 0 < g → g ≤ last → at old g ≡ x.times g)
        → (g : ℕ)
        → 0 < g
        → g ≤ last
        → at new g ≡ named (is_left n key k ks x.facts s) x.times g
    step_named old new h m before g p q =
        let f = every_at (fine_at ws gone owners struck k.loop (end_of n.points k.loop)) last g h p q in
        let l : left_at ws gone struck k.loop g ≡ is_left n key k ks x.facts s g =
        left_same g p q (sym (fine_alike g p q) ∙ f) in
        m.more g p q ∙ rw (l, before g p q) refl
