-- The calls on loops that may not run, of one dependence, keep their page.
-- Main statements: `relies_is`, `is_relied`, `splits_is`, `is-split`, `skipped_kept`.
use mathlib.Core.Path.{◌≡◌, refl, sym, ◌∙◌, ap, subst}
use mathlib.Core.Bool.{true, false}
use mathlib.Core.List.{List, [], ◌∷◌}
use mathlib.Core.Logic.{◌⊎◌, inl, inr, ⊎_elim, ◌↔◌}
use Prim.Native.Nat.{ℕ, zero, suc, ◌≤◌, ◌<◌}
use native.Mathlib.Omega.{arith}
use lib.ListN.{length, drop}
use borrow.Author.Tests.{eq-eqb, ne_eqb, lt-ltb, le-ltb}
use Rattle.laws.specs.Choice.{is_in}
use Rattle.laws.specs.Members.{Among}
use Rattle.laws.proofs.Tests.{never_both, false_by, le_or}
use Rattle.paper_nests.specs.declared.Dependence as DE
use Rattle.paper_nests.specs.Nests.{Dep, Nest}
use Rattle.paper_nests.specs.Loops.{end_of, in_loop}
use Rattle.paper_nests.specs.Gaps.{has_gap}
use Rattle.paper_nests.specs.Valid.{is_shape, is_valid}
use Rattle.paper_nests.specs.Stored.{dep_in, nest_in}
use Rattle.paper_nests.proofs.Loops.{inside_by, inside_lies}
use Rattle.paper_placements.specs.Placements.{cuts}
use Rattle.paper_placements.proofs.Cuts.{gap_cuts}
use Rattle.paper_placements.proofs.Words.{in_gaps}
use Rattle.paper_texts.specs.PlacementTexts.{Placed}
use Rattle.desk.specs.declared.Desk as DD
use Rattle.desk.specs.declared.Chosen as DC
use Rattle.desk.specs.Desks.{desk_in, IsMade, Fault, fault, state_fault}
use Rattle.desk.specs.Says.{read_in}
use Rattle.call_missing.specs.Foreign.{belongs, is_foreign}
use Rattle.call_missing.specs.Listed.{NeedsBarrier}
use Rattle.call_missing.specs.Reached.{NotSkipped, AllForeign}
use Rattle.call_missing.proofs.Members.{in_words}
use Rattle.call_skipped.specs.OneEnd as O
use Rattle.call_skipped.specs.Says.{number_fault, relied_fault, ReliedSays, OneEndSays}
use Rattle.call_skipped.specs.Skipped.{IsNumbered, given}
use Rattle.call_skipped.proofs.Skipped.{relied_iff, relied_uncut, relied_cut, one_end_iff}
use Rattle.pages.specs.Demands.{At, In, Loop, Paper, Places}
use Rattle.pages.proofs.Lists.{at_in, in_is, is-in}
use Rattle.pages.proofs.Bodies.{loop_end, loop_do, loop_at}
use Rattle.pages.proofs.Placements.{mapped, nest_of, nest_of_paper, mapped_at, mapped_length, gap_is, is-gap}
use Rattle.pages.proofs.Keys.{shaped, fit}
use Rattle.pages.proofs.Desks.{reached_made}
use Rattle.pages.proofs.Kept.{paper_on, flags_of}
use Rattle.pages_requests.proofs.Papers.{page_valid, nest_state, no_nest_state, bit_is, is_bit}
use Rattle.pages_calls.specs.MissingRuns.{Foreign, Cuts, Clear}
use Rattle.pages_calls.specs.SkippedLoops.{Gives, Relies, Alone, Splits, SkippedLoops}
use Rattle.pages_calls.proofs.MissingKept.{flag_do, inside_is, is-inside, belongs_is, is_belonging}
use Rattle.pages_calls.proofs.MissingKept.{foreign_is, is-foreign}
use Rattle.pages_calls.proofs.Reading.{places_read, not_read}

at_drop : {A : Type 0} (xs : List A) (i : ℕ) (x : A) → At xs i x → drop i xs ≡ x ∷ drop (suc i) xs
at_drop [] i x h = absurd h
at_drop (y ∷ ys) zero x h = rw h
at_drop (y ∷ ys) (suc i) x h = at_drop ys i x h

module _ (p : Paper) (fl : List ℕ) (valid : is_valid (nest_of p fl) ≡ true) (x : DE.Dependence)
    (there : In x p.deps) where
  abbrev ps : List ℕ
  ps = p.points

  abbrev e : Dep
  e = dep_in x

  shape : is_shape ps ≡ true
  shape = shaped p fl valid

  -- relied on
  module _ (xs : List ℕ) where
    cuts_is : (g : ℕ) → Cuts p xs x g → (is_in g xs ≡ true) × (has_gap ps e g ≡ true)
    cuts_is g c = (in_is g xs c.0.0 c.0.1, gap_is ps shape x g c.1)

    is_cutting : (g : ℕ) → is_in g xs ≡ true → has_gap ps e g ≡ true → Cuts p xs x g
    is_cutting g i h = (is-in g xs i, is-gap ps shape x g (fit p fl valid x there) h)

    pub relies_is : (l : ℕ) → NeedsBarrier ps (e ∷ []) fl xs l → Relies p fl xs x l
    relies_is l h = go h.among
      where
        go : Among h.dep (e ∷ []) → Relies p fl xs x l
        go (inl q) =
            let f : is_foreign ps fl e l ≡ true = ap (λ (y : Dep). is_foreign ps fl y l) (sym q) ∙ h.foreign in
            let c : has_gap ps e h.gap ≡ true = ap (λ (y : Dep). has_gap ps y h.gap) (sym q) ∙ h.cut in
            let v = is-foreign p fl valid x l f in
            record {
              foreign = v;
              cut_inside = (
                h.gap,
                (
                  is_cutting h.gap h.placed c,
                  is-inside p fl valid l h.gap (loop_do ps l v.end v.loop) h.inside,
                ),
              );
              none_outside =
                  λ g k out.
                  h.none_outside g (cuts_is g k).0 (ap (λ (y : Dep). has_gap ps y g) q ∙ (cuts_is g k).1)
                  (λ j u.
                  false_by
                  (λ z.
                  let w = is-foreign p fl valid x j (ap (λ (y : Dep). is_foreign ps fl y j) (sym q) ∙ u) in
                  out j w (is-inside p fl valid j g (loop_do ps j w.end w.loop) z)));
            }
        go (inr q) = absurd q

    pub is_relied : (l : ℕ) → Relies p fl xs x l → NeedsBarrier ps (e ∷ []) fl xs l
    is_relied l h =
        let c = h.cut_inside in
        record {
          dep = e;
          among = inl refl;
          foreign = foreign_is p fl valid x l h.foreign;
          gap = c.0;
          placed = (cuts_is c.0 c.1.0).0;
          inside = inside_is p fl valid l c.0 c.1.1;
          cut = (cuts_is c.0 c.1.0).1;
          none_outside =
              λ g i k out.
              h.none_outside g (is_cutting g i k)
              (λ j u v. never_both (inside_is p fl valid j g v) (out j (foreign_is p fl valid x j u)));
        }

    -- a barrier in no skipped loop
    clear_is
        : (skipped : List ℕ) → ((k : ℕ) → In k skipped → (end : ℕ) × Loop ps k end) → Clear p xs skipped x
        → NotSkipped ps e skipped xs
    clear_is skipped loops c =
        record {
          gap = c.gap;
          placed = (cuts_is c.gap c.cuts).0;
          cut = (cuts_is c.gap c.cuts).1;
          clear =
              λ k h.
              false_by
              (λ z.
              let i = is-in k skipped h in
              let l = loops k i in
              c.clear k i (is-inside p fl valid k c.gap (loop_do ps k l.0 l.1) z));
        }

    is_clear : (skipped : List ℕ) → NotSkipped ps e skipped xs → Clear p xs skipped x
    is_clear skipped h =
        record {
          gap = h.gap;
          cuts = is_cutting h.gap h.placed h.cut;
          clear =
              λ l k v. never_both (inside_is p fl valid l h.gap v) (h.clear l (in_is l skipped k.0 k.1));
        }

  -- one end alone
  module _ (l : ℕ) where
    alone_is
        : (end q o : ℕ) → Loop ps l end → Alone l end q o → (in_loop ps l q ≡ true) × (belongs ps l o ≡ false)
    alone_is end q o k a =
        let m = loop_end ps l end k in
        let d = loop_do ps l end k in (
          inside_by ps l q a.0.0 (omega (arith, a.0.1, m)),
          false_by
              (λ z.
              let b = belongs_is p fl valid l o d z in
              ⊎_elim (λ (w : o < l). omega (arith, b.0)) (λ (w : end < o). omega (arith, b.1, m)) a.1),
        )

    is_alone
        : (q o : ℕ) → in_loop ps l q ≡ true → belongs ps l o ≡ false → Alone l (end_of ps l) q o
    is_alone q o h k = (
      inside_lies ps l q h,
      ⊎_elim
          (λ (z : l ≤ o).
          ⊎_elim
          (λ (w : o ≤ end_of ps l). never_both (is_belonging p fl valid l o z w) k)
          (λ (w : end_of ps l < o). inr w)
          (le_or o (end_of ps l)))
          (λ (z : o < l). inl z)
          (le_or l o),
    )

    pub splits_is : Splits ps fl x l → O.Splits ps fl e l
    splits_is h =
        record {
          flagged = in_is l fl h.flagged.0 h.flagged.1;
          carried = h.carried;
          forward = h.forward;
          one_end =
              ⊎_elim
              (λ (a : Alone l h.end x.s x.t). inl (alone_is h.end x.s x.t h.loop a))
              (λ (a : Alone l h.end x.t x.s). inr (alone_is h.end x.t x.s h.loop a))
              h.one_end;
        }

    pub is-split : O.Splits ps fl e l → Splits ps fl x l
    is-split h =
        record {
          flagged = is-in l fl h.flagged;
          carried = h.carried;
          forward = h.forward;
          end = end_of ps l;
          loop = loop_at ps shape l (flag_do p fl valid l h.flagged);
          one_end = go h.one_end;
        }
      where
        go
            : ((in_loop ps l e.s ≡ true) × (belongs ps l e.t ≡ false)) ⊎
            ((in_loop ps l e.t ≡ true) × (belongs ps l e.s ≡ false))
            → Alone l (end_of ps l) x.s x.t ⊎ Alone l (end_of ps l) x.t x.s
        go (inl a) = inl (is_alone x.s x.t a.0 a.1)
        go (inr a) = inr (is_alone x.t x.s a.0 a.1)

-- ---- the calls

-- the loops of a reply
gives_in : (r : DC.Chosen) (l : ℕ) → Gives r l → is_in l (given r) ≡ true
gives_in r l b = in_gaps r.set.words l b.0 ∙ bit_is r.set.words l b.1

in_gives : (r : DC.Chosen) (l : ℕ) → is_in l (given r) ≡ true → Gives r l
in_gives r l h = let i = in_words r.set.words l h in (i.0, is_bit r.set.words l i.1)

-- no dependence has the number
beyond
    : (xs : List DE.Dependence) (i : ℕ) → ((x : DE.Dependence) → At xs i x → ⊥) → length xs ≤ i
beyond [] i h = omega arith
beyond (y ∷ ys) zero h = absurd (h y refl)
beyond (y ∷ ys) (suc i) h = let z = beyond ys i h in omega arith

module _ (d : DD.Desk) (m : IsMade d) (loaded : d.loaded ≡ true) where
  abbrev page : Paper
  page = paper_on d

  abbrev flags : List ℕ
  flags = flags_of d

  valid : is_valid (nest_of page flags) ≡ true
  valid = page_valid d m loaded

  many : length (nest_in d.nest).deps ≡ length page.deps
  many = ap (λ (n : Nest). length n.deps) (nest_of_paper d.nest) ∙ mapped_length page.deps

  module _ (i : ℕ) where
    not_there : ((x : DE.Dependence) → At page.deps i x → ⊥) → number_fault (desk_in d) i ≡ 6
    not_there h =
        rw (le-ltb i (length (nest_in d.nest).deps) (omega (arith, beyond page.deps i h, many)))

    is_there : (x : DE.Dependence) → At page.deps i x → number_fault (desk_in d) i ≡ 0
    is_there x h =
        rw (lt-ltb i (length (nest_in d.nest).deps) (omega (arith, at_in page.deps i x h, many)))

    numbered : (x : DE.Dependence) → At page.deps i x → IsNumbered (nest_in d.nest).deps i (dep_in x)
    numbered x h =
        subst (λ (n : Nest). IsNumbered n.deps i (dep_in x)) (sym (nest_of_paper d.nest))
        (at_drop (mapped page.deps) i (dep_in x) (mapped_at page.deps i x h))

    module _ (s : List ℕ) where
      read_fault : (xs : List ℕ) → Places page s xs → relied_fault (desk_in d) s i ≡ fault (number_fault (desk_in d) i) 0
      read_fault xs p =
          rw (eq-eqb (state_fault false (desk_in d)) 0 (nest_state d loaded), places_read d m loaded s xs p)

      unread_fault
          : ((xs : List ℕ) → Places page s xs → ⊥) → (relied_fault (desk_in d) s i).number ≡ (read_in (desk_in d) s).number
      unread_fault bad =
          rw (
            eq-eqb (state_fault false (desk_in d)) 0 (nest_state d loaded),
            ne_eqb (read_in (desk_in d) s).number 0 (not_read d m loaded s bad),
          )

      module _
          (xs : List ℕ) (p : Places page s xs) (x : DE.Dependence) (at : At page.deps i x) (r : DC.Chosen)
          (h : ReliedSays d s i r) where
        answered : r.number ≡ 0
        answered = h.number_is ∙ ap (λ (f : Fault). f.number) (read_fault xs p) ∙ is_there x at

        gaps : (read_in (desk_in d) s).gaps ≡ xs
        gaps = ap (λ (q : Placed). q.gaps) (places_read d m loaded s xs p)

        abbrev NeedsOn : ℕ → Nest → List ℕ → Type 0
        NeedsOn l n gs = NeedsBarrier n.points (dep_in x ∷ []) n.flagged gs l

        needs_here : (l : ℕ) → (is_in l (given r) ≡ true) ↔ NeedsOn l (nest_of page flags) xs
        needs_here l =
            subst (λ (n : Nest). (is_in l (given r) ≡ true) ↔ NeedsOn l n xs) (nest_of_paper d.nest)
            (subst (λ (gs : List ℕ). (is_in l (given r) ≡ true) ↔ NeedsOn l (nest_in d.nest) gs) gaps
            (relied_iff d s i (dep_in x) r m h answered (numbered x at) l))

        relied_here : (l : ℕ) → Gives r l ↔ Relies page flags xs x l
        relied_here l =
            let q = needs_here l in (
              (λ b. relies_is page flags valid x (i, at) xs l (q.0 (gives_in r l b))),
              (λ w. in_gives r l (q.1 (is_relied page flags valid x (i, at) xs l w))),
            )

        abbrev SkippedOn : List ℕ → Nest → List ℕ → Type 0
        SkippedOn skipped n gs = NotSkipped n.points (dep_in x) skipped gs

        uncut_here
            : (l : ℕ) (skipped : List ℕ) → Gives r l → ((k : ℕ) → Gives r k → In k skipped)
            → ((k : ℕ) → In k skipped → (end : ℕ) × Loop page.points k end) → Clear page xs skipped x → ⊥
        uncut_here l skipped b all loops c =
            on_page (clear_is page flags valid x (i, at) xs skipped loops c)
          where
            on_page : SkippedOn skipped (nest_of page flags) xs → ⊥
            on_page =
                subst (λ (n : Nest). SkippedOn skipped n xs → ⊥) (nest_of_paper d.nest)
                (subst (λ (gs : List ℕ). SkippedOn skipped (nest_in d.nest) gs → ⊥) gaps
                (relied_uncut d s i (dep_in x) r m h answered (numbered x at) l (gives_in r l b) skipped
                (λ k q. let j = all k (in_gives r k q) in in_is k skipped j.0 j.1)))

        abbrev StillOn : List ℕ → Nest → List ℕ → Type 0
        StillOn skipped n gs =
            cuts n.points (dep_in x) gs ≡ true → AllForeign n (dep_in x) skipped → SkippedOn skipped n gs

        still_here
            : (g : ℕ) (skipped : List ℕ) → Cuts page xs x g → ((l : ℕ) → Gives r l → ⊥)
            → ((k : ℕ) → In k skipped → Foreign page.points flags x k) → Clear page xs skipped x
        still_here g skipped c none foreign =
            let k = cuts_is page flags valid x (i, at) xs g c in
            is_clear page flags valid x (i, at) xs skipped
            (on_page (gap_cuts page.points (dep_in x) xs g k.0 k.1)
            (λ j z. foreign_is page flags valid x j (foreign j (is-in j skipped z))))
          where
            on_page : StillOn skipped (nest_of page flags) xs
            on_page =
                subst (λ (n : Nest). StillOn skipped n xs) (nest_of_paper d.nest)
                (subst (λ (gs : List ℕ). StillOn skipped (nest_in d.nest) gs) gaps
                (λ cut all.
                relied_cut d s i (dep_in x) r m h answered (numbered x at)
                (λ l. false_by (λ (q : is_in l (given r) ≡ true). none l (in_gives r l q))) cut skipped all))

    module _ (x : DE.Dependence) (at : At page.deps i x) (r : DC.Chosen) (h : OneEndSays d i r) where
      told : r.number ≡ 0
      told = h.number_is ∙ rw (nest_state d loaded, is_there x at)

      one_here : (l : ℕ) → Gives r l ↔ Splits page.points flags x l
      one_here l =
          let q : (is_in l (given r) ≡ true) ↔ O.Splits page.points flags (dep_in x) l =
          subst (λ (n : Nest). (is_in l (given r) ≡ true) ↔ O.Splits n.points n.flagged (dep_in x) l)
          (nest_of_paper d.nest) (one_end_iff d i (dep_in x) r m h told (numbered x at) l) in (
            (λ b. is-split page flags valid x (i, at) l (q.0 (gives_in r l b))),
            (λ w. in_gives r l (q.1 (splits_is page flags valid x (i, at) l w))),
          )

pub skipped_kept : SkippedLoops
skipped_kept =
    record {
      no_nest =
          λ d s i r h z.
          let n : state_fault false (desk_in d) ≡ 10 = no_nest_state d z in
          let f : relied_fault (desk_in d) s i ≡ fault 10 0 = rw n in
          (h.number_is ∙ ap (λ (x : Fault). x.number) f, h.line_is ∙ ap (λ (x : Fault). x.place) f);
      unread =
          λ d s i r q loaded h bad z.
          let m = reached_made d q in
          not_read d m loaded s bad (sym (unread_fault d m loaded i s bad) ∙ sym h.number_is ∙ z);
      no_dependence =
          λ d s xs i r q loaded h p none.
          let m = reached_made d q in
          let f = read_fault d m loaded i s xs p in (
            h.number_is ∙ ap (λ (x : Fault). x.number) f ∙ not_there d m loaded i none,
            h.line_is ∙ ap (λ (x : Fault). x.place) f,
          );
      relied =
          λ d s xs i x r a h.
          let m = reached_made d a.reached in (
            answered d m a.nest i s xs a.places x a.numbered r h,
            relied_here d m a.nest i s xs a.places x a.numbered r h,
          );
      uncut =
          λ d s xs i x r a h.
          uncut_here d (reached_made d a.reached) a.nest i s xs a.places x a.numbered r h;
      still_cut =
          λ d s xs i x r a h.
          still_here d (reached_made d a.reached) a.nest i s xs a.places x a.numbered r h;
      one_end_no_nest = λ d i r h z. (h.number_is ∙ rw (no_nest_state d z), h.line_is);
      one_end_no_dependence =
          λ d i r q loaded h none.
          let m = reached_made d q in
          (h.number_is ∙ rw (nest_state d loaded, not_there d m loaded i none), h.line_is);
      one_end =
          λ d i x r q loaded at h.
          let m = reached_made d q in
          (told d m loaded i x at r h, one_here d m loaded i x at r h);
    }
