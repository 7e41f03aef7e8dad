-- Taking back: of the moves made since a play, those not taken back lead to the state, and the latest of them are kept.
-- Main statements: `history_moved`, `history_back`; `standing_start`, `standing_moved`, `standing_back`, `all_back`,
-- `one_kept`, `still_latest`.
use mathlib.Core.Path.{◌≡◌, refl, sym, ap, ◌∙◌, subst}
use mathlib.Core.Bool.{Bool, true, false}
use mathlib.Core.List.{List, [], ◌∷◌, ◌++◌}
use mathlib.Core.Logic.{◌⊎◌, inl, inr, ⊎_elim}
use Prim.Native.Nat.{ℕ, zero, suc, ◌+◌, ◌-◌, ◌≤◌, ◌<◌}
use native.Mathlib.Omega.{arith}
use lib.Dec.{ltb}
use lib.ListN.{length, take, length-take, length-append}
use lib.Seq.{take_all, take-take}
use borrow.Author.Tests.{ltb-true, ltb-false}
use Rattle.laws.specs.Choice.{pick}
use Rattle.laws.proofs.Tests.{le_or}
use Rattle.desk_moves.specs.TakeBack.{Game, Undoes, Play, moved, back_to, taken_back, Came, Led, History}
use Rattle.desk_moves.specs.TakeBack.{most, still_kept}

-- ---- lists

module _ {M : Type 0} where
  -- a list cut to k and one more in front
  pub take_front : (k : ℕ) (m : M) (ms : List M) → take k (m ∷ take k ms) ≡ take k (m ∷ ms)
  take_front zero m ms = refl
  take_front (suc k) m ms = ap (λ (l : List M). m ∷ l) (take-take k (suc k) ms (omega arith))

  -- a list cut to less than k and one more in front
  pub take_more : (k j : ℕ) (m : M) (ms : List M) → j < k → take k (m ∷ take j ms) ≡ take (suc j) (m ∷ ms)
  take_more zero j m ms h = absurd (omega arith)
  take_more (suc k) j m ms h =
      ap (λ (l : List M). m ∷ l) (take_all k (take j ms) (omega (arith, length-take j ms)))

module _ {S M : Type 0} (G : Game S M) where
  -- ---- what makes a take-back fit

  -- a state came about by the latest of the moves that led to it
  pub history_cut : (k : ℕ) (ms : List M) (s : S) → History G ms s → History G (take k ms) s
  history_cut zero ms s h = tt
  history_cut (suc k) [] s h = tt
  history_cut (suc k) (m ∷ ms) s h =
      record {
        from = h.from;
        fitted = h.fitted;
        came = h.came;
        earlier = history_cut k ms h.from h.earlier;
      }

  pub history_moved
      : (p : Play S M) (m : M)
      → History G p.kept p.state
      → G.fits p.state m
      → History G (moved G p m).kept (moved G p m).state
  history_moved p m h f =
      history_cut
      G.room
      (m ∷ p.kept)
      (G.apply p.state m)
      (record { from = p.state; fitted = f; came = refl; earlier = h })

  module _ (undoes : Undoes G) where
    -- the latest move undone leaves the state that it came from
    pub came_undone : (Before : S → Type 0) (s : S) (m : M) (h : Came G Before s m) → G.undo s m ≡ h.from
    came_undone Before s m h =
        ap (λ (x : S). G.undo x m) (sym h.came) ∙ undoes h.from m h.fitted

    pub history_back
        : (p : Play S M)
        → History G p.kept p.state
        → History G (taken_back G p).kept (taken_back G p).state
    history_back p h = go p.state p.kept h
      where
        go : (s : S) (ks : List M) → History G ks s → History G (back_to G s ks).kept (back_to G s ks).state
        go s [] h = tt
        go s (m ∷ ks) h =
            subst (λ (x : S). History G ks x) (sym (came_undone (History G ks) s m h)) h.earlier

-- ---- 02, job 5: up to 64 in a row; older moves are forgotten

pub most_is : (a b : ℕ) → ((most a b ≡ a) × (b ≤ a)) ⊎ ((most a b ≡ b) × (a < b))
most_is a b = go (ltb a b) refl
  where
    go : (t : Bool) → ltb a b ≡ t → ((pick t b a ≡ a) × (b ≤ a)) ⊎ ((pick t b a ≡ b) × (a < b))
    go true e = inr (refl, ltb-true a b e)
    go false e = inl (refl, ltb-false a b e)

-- play q, where of the moves made since play p ms, the latest first, are not taken back, and at one time k were not:
-- they lead from p's state to q's, and of them and p's moves those are kept for which there was room
pub record Standing {S M : Type 0} (G : Game S M) (p : Play S M) (k : ℕ) (ms : List M) (q : Play S M) : Type 0 where
  pub led : Led G (λ s. p.state ≡ s) ms q.state
  pub fits : length p.kept ≤ G.room
  pub many : length ms ≤ k
  pub not_all : k ≤ length ms + G.room
  pub kept_are : q.kept ≡ still_kept G (k + length p.kept) (ms ++ p.kept)

-- how many moves are kept, and which
module _ {S M : Type 0} (G : Game S M) (p : Play S M) (k : ℕ) (ms : List M) where
  abbrev kept_many : ℕ
  kept_many = length ms + length p.kept - (k + length p.kept - G.room)

  still_is : still_kept G (k + length p.kept) (ms ++ p.kept) ≡ take kept_many (ms ++ p.kept)
  still_is =
      ap (λ (l : ℕ). take (l - (k + length p.kept - G.room)) (ms ++ p.kept)) (length-append ms p.kept)

  kept_take : (q : Play S M) → Standing G p k ms q → q.kept ≡ take kept_many (ms ++ p.kept)
  kept_take q s = s.kept_are ∙ still_is

module _ {S M : Type 0} (G : Game S M) (p : Play S M) where
  pub standing_start : length p.kept ≤ G.room → Standing G p 0 [] p
  standing_start h =
      let z : kept_many G p 0 [] ≡ length p.kept = omega arith in
      let all : take (kept_many G p 0 []) p.kept ≡ p.kept =
      rw z (take_all (length p.kept) p.kept (omega arith)) in
      record {
        led = refl;
        fits = h;
        many = omega arith;
        not_all = omega arith;
        kept_are = sym (still_is G p 0 [] ∙ all);
      }

  pub standing_moved
      : (k : ℕ) (ms : List M) (q : Play S M) (m : M)
      → Standing G p k ms q
      → G.fits q.state m
      → Standing G p (most k (suc (length ms))) (m ∷ ms) (moved G q m)
  standing_moved k ms q m s f = go (most k (suc (length ms))) (most_is k (suc (length ms)))
    where
      came : Led G (λ t. p.state ≡ t) (m ∷ ms) (G.apply q.state m)
      came = record { from = q.state; fitted = f; came = refl; earlier = s.led }

      -- one more is kept, as far as there is room
      front
          : (j : ℕ)
          → kept_many G p k ms ≤ G.room
          → (kept_many G p k ms < G.room → j ≡ suc (kept_many G p k ms))
          → (G.room ≤ kept_many G p k ms → j ≡ G.room)
          → take G.room (m ∷ q.kept) ≡ take j (m ∷ (ms ++ p.kept))
      front j h more full =
          ap (λ (l : List M). take G.room (m ∷ l)) (kept_take G p k ms q s) ∙
          ⊎_elim
          (λ (z : G.room ≤ kept_many G p k ms).
          let e : kept_many G p k ms ≡ G.room = omega arith in
          rw (e, full z) (take_front G.room m (ms ++ p.kept)))
          (λ (z : kept_many G p k ms < G.room).
          rw (more z) (take_more G.room (kept_many G p k ms) m (ms ++ p.kept) z))
          (le_or G.room (kept_many G p k ms))

      go
          : (j : ℕ) → ((j ≡ k) × (suc (length ms) ≤ k)) ⊎ ((j ≡ suc (length ms)) × (k < suc (length ms)))
          → Standing G p j (m ∷ ms) (moved G q m)
      go j (inl h) =
          record {
            led = came;
            fits = s.fits;
            many = omega (arith, h.0, h.1);
            not_all = omega (arith, h.0, s.not_all);
            kept_are =
                front (kept_many G p j (m ∷ ms))
                (omega (arith, h.1, s.many))
                (λ z. omega (arith, h.0, h.1, s.not_all))
                (λ z. omega (arith, h.0, h.1)) ∙
                sym (still_is G p j (m ∷ ms));
          }
      go j (inr h) =
          record {
            led = came;
            fits = s.fits;
            many = omega (arith, h.0);
            not_all = omega (arith, h.0);
            kept_are =
                front (kept_many G p j (m ∷ ms))
                (omega (arith, h.1, s.many))
                (λ z. omega (arith, h.0, h.1, s.many))
                (λ z. omega (arith, h.0, h.1, s.many)) ∙
                sym (still_is G p j (m ∷ ms));
          }

  -- a take-back where a move is kept
  pub standing_back
      : Undoes G
      → (k : ℕ) (ms : List M) (q : Play S M) (m : M)
      → Standing G p k (m ∷ ms) q
      → (length q.kept ≡ 0 → ⊥)
      → Standing G p k ms (taken_back G q)
  standing_back undoes k ms q m s some = go (kept_many G p k (m ∷ ms)) refl
    where
      go : (j : ℕ) → kept_many G p k (m ∷ ms) ≡ j → Standing G p k ms (taken_back G q)
      go zero e =
          let z : q.kept ≡ [] = rw e at (kept_take G p k (m ∷ ms) q s) in
          absurd (some (ap length z))
      go (suc j) e =
          let c : q.kept ≡ m ∷ take j (ms ++ p.kept) = rw e at (kept_take G p k (m ∷ ms) q s) in
          let u = came_undone G undoes (Led G (λ t. p.state ≡ t) ms) q.state m s.led in
          let l : kept_many G p k ms ≡ j = omega arith in
          let r : take j (ms ++ p.kept) ≡ still_kept G (k + length p.kept) (ms ++ p.kept) =
          sym (still_is G p k ms ∙ ap (λ (i : ℕ). take i (ms ++ p.kept)) l) in
          rw
          c
          (record {
            led = subst (λ (x : S). Led G (λ t. p.state ≡ t) ms x) (sym u) s.led.earlier;
            fits = s.fits;
            many = omega (arith, s.many);
            not_all = omega arith;
            kept_are = r;
          })

  -- all taken back, the state is that of before
  pub all_back : (k : ℕ) (q : Play S M) → Standing G p k [] q → p.state ≡ q.state
  all_back k q s = s.led

  -- as long as one is not taken back, and there never were more than there is room for, one is kept
  pub one_kept
      : (k : ℕ) (ms : List M) (q : Play S M) (m : M)
      → Standing G p k (m ∷ ms) q
      → k ≤ G.room
      → length q.kept ≡ 0 → ⊥
  one_kept k ms q m s h e = go (kept_many G p k (m ∷ ms)) refl
    where
      go : (j : ℕ) → kept_many G p k (m ∷ ms) ≡ j → ⊥
      go zero d = omega arith
      go (suc j) d =
          let c : q.kept ≡ m ∷ take j (ms ++ p.kept) = rw d at (kept_take G p k (m ∷ ms) q s) in
          let l : length q.kept ≡ suc (length (take j (ms ++ p.kept))) = ap length c in
          omega arith

-- where none was taken back, the latest are kept that there is room for
pub still_latest
    : {S M : Type 0} (G : Game S M) (ms : List M) → still_kept G (length ms) ms ≡ take G.room ms
still_latest G ms = ⊎_elim
    (λ (h : G.room ≤ length ms).
    let z : length ms - (length ms - G.room) ≡ G.room = omega arith in
    rw z)
    (λ (h : length ms < G.room).
    let z : length ms - (length ms - G.room) ≡ length ms = omega arith in
    rw z (take_all (length ms) ms (omega arith) ∙ sym (take_all G.room ms (omega arith))))
    (le_or G.room (length ms))
