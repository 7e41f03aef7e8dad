-- Moves that can be undone, the latest of them kept, and taking back: of any states and any moves.
-- Main definitions: `Game`, `Undoes`, `Play`, `moved`, `taken_back`, `Led`, `History`, `most`, `still_kept`.
use Rattle.std.specs.Prelude.{◌≡◌, List, [], ◌∷◌, ℕ, ◌-◌, ltb, length, take}
use Rattle.laws.specs.Choice.{pick}

-- states and moves: which moves fit a state, what a move makes of it, what undoes it; `room` moves are kept
pub record Game (S M : Type 0) : Type 1 where
  pub room : ℕ
  pub fits : S → M → Type 0
  pub apply : S → M → S
  pub undo : S → M → S

-- a state, and the latest moves that led to it and are not yet taken back, the latest first
pub record Play (S M : Type 0) : Type 0 where
  pub state : S
  pub kept : List M

abbrev pub play : {S M : Type 0} → S → List M → Play S M
play s ms = record { state = s; kept = ms }

module _ {S M : Type 0} (G : Game S M) where
  -- undone, a move that fitted leaves the state of before
  abbrev pub Undoes : Type 0
  Undoes = (s : S) (m : M) → G.fits s m → G.undo (G.apply s m) m ≡ s

  -- 02, job 5: a move is kept; older moves are forgotten
  abbrev pub moved : Play S M → M → Play S M
  moved p m = play (G.apply p.state m) (take G.room (m ∷ p.kept))

  -- 02, job 5: take back undoes the latest move; it is no move itself; where none is kept it is refused
  abbrev pub back_to : S → List M → Play S M
  back_to s [] = play s []
  back_to s (m ∷ ms) = play (G.undo s m) ms

  abbrev pub taken_back : Play S M → Play S M
  taken_back p = back_to p.state p.kept

  -- the state came from another by a move that fitted it
  pub record Came (Before : S → Type 0) (s : S) (m : M) : Type 0 where
    pub from : S
    pub fitted : G.fits from m
    pub came : G.apply from m ≡ s
    pub earlier : Before from

  -- the state came about by these moves, the latest first, from a state of the kind `First`
  abbrev pub Led : (S → Type 0) → List M → S → Type 0
  Led First [] s = First s
  Led First (m ∷ ms) s = Came (Led First ms) s m

  -- from any state
  abbrev pub History : List M → S → Type 0
  History ms s = Led (λ t. Unit) ms s

  -- 02, job 5: older moves are forgotten: of `all` moves not yet taken back, where at one time there were `peak`, those
  -- for which there was no room then, the oldest
  abbrev pub still_kept : ℕ → List M → List M
  still_kept peak all = take (length all - (peak - G.room)) all

-- the greater of two numbers
abbrev pub most : ℕ → ℕ → ℕ
most a b = pick (ltb a b) b a
