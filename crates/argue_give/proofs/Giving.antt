-- Claims given one after the other: one claim more, and lists of heads behind each other.
-- Main statements: `gives_none`, `gives_then`, `gives_under`, `gives_as`, `gives_one`.
use mathlib.Core.Path.{◌≡◌, refl, sym, ◌∙◌, ap}
use mathlib.Core.List.{List, [], ◌∷◌, ◌++◌, append-nil, append_assoc}
use Prim.Native.Nat.{ℕ, zero, suc, ◌+◌, ◌-◌, ◌%◌, ◌≤◌, ◌<◌}
use native.Mathlib.Omega.{arith}
use lib.ListN.{length, set, take, length-append}
use Rattle.paper_nests.specs.Nests.{Dep}
use Rattle.paper_nests.specs.declared.Nest as DN
use Rattle.paper_nests.specs.Stored.{nest_in}
use Rattle.paper_nests.proofs.Loops.{end-after}
use Rattle.plan_method.specs.Sweep.{Tables}
use Rattle.argue_claims.specs.Arguments.{Claim, claim}
use Rattle.argue_texts.specs.ArgumentTexts.{CLAIMS, steps_text, argument_text}
use Rattle.argue_texts.specs.declared.Claimed.{Claimed}
use Rattle.argue_key.specs.Laps.{before, Head, head, few_for, find_claim, steps_for, claim_for, made}
use Rattle.argue_spell.specs.Added.{head_text, Added}
use Rattle.argue_spell.proofs.Adding.{added_then, added_as}
use Rattle.argue_trace.specs.Traced.{claim_in, claims_in}
use Rattle.argue_laps.specs.Lapped.{LapGround, LapsSay}
use Rattle.argue_give.specs.Given.{bare_all, Gives, GiveRoom, GiveGround}

pub before_is : (x : ℕ) → x - 1 ≡ before x
before_is zero = refl
before_is (suc x) = omega arith

-- ---- lists of claims

made_append : (ps : List ℕ) (ds : List Dep) (T : Tables) (cs : List Claim) (hs gs : List Head) →
    (cs ++ made ps ds T cs hs) ++ made ps ds T (cs ++ made ps ds T cs hs) gs ≡ cs ++ made ps ds T cs (hs ++ gs)
unfolding made
made_append ps ds T cs [] gs = ap (λ (x : List Claim). x ++ made ps ds T x gs) (append-nil cs)
made_append ps ds T cs (h ∷ hs) gs =
    let k = claim_for ps ds T cs h in
    let z : (cs ++ (k ∷ [])) ++ made ps ds T (cs ++ (k ∷ [])) hs ≡ cs ++ (k ∷ made ps ds T (cs ++ (k ∷ [])) hs) =
    append_assoc cs (k ∷ []) (made ps ds T (cs ++ (k ∷ [])) hs) in
    ap (λ (x : List Claim). x ++ made ps ds T x gs) (sym z) ∙
    made_append ps ds T (cs ++ (k ∷ [])) hs gs ∙
    append_assoc cs (k ∷ []) (made ps ds T (cs ++ (k ∷ [])) (hs ++ gs))

text_append : (cs es : List Claim) → argument_text (cs ++ es) ≡ argument_text cs ++ argument_text es
unfolding argument_text
text_append [] es = refl
text_append (k ∷ cs) es =
    let t = head_text k.loop k.from k.upto in
    ap (λ (x : List ℕ). t ++ (steps_text k.steps ++ x)) (text_append cs es) ∙
    ap (λ (x : List ℕ). t ++ x) (sym (append_assoc (steps_text k.steps) (argument_text cs) (argument_text es))) ∙
    sym (append_assoc t (steps_text k.steps ++ argument_text cs) (argument_text es))

one_text : (k : Claim) →
    head_text k.loop k.from k.upto ++ steps_text k.steps ≡ argument_text (k ∷ [])
unfolding argument_text
one_text k = ap (λ (x : List ℕ). head_text k.loop k.from k.upto ++ x) (sym (append-nil (steps_text k.steps)))

bare_append : (cs es : List Claim) → bare_all (cs ++ es) ≡ bare_all cs ++ bare_all es
unfolding bare_all
bare_append [] es = refl
bare_append (k ∷ cs) es = ap (λ (x : List Claim). claim k.loop k.from k.upto [] ∷ x) (bare_append cs es)

bare_length : (cs : List Claim) → length (bare_all cs) ≡ length cs
unfolding bare_all
bare_length [] = refl
bare_length (k ∷ cs) = ap suc (bare_length cs)

-- steps decide nothing about what is found
bare_found : (cs : List Claim) (l a t : ℕ) → find_claim (bare_all cs) l a t ≡ find_claim cs l a t
unfolding bare_all find_claim
bare_found [] l a t = refl
bare_found (k ∷ cs) l a t = rw (bare_found cs l a t)

-- ---- the list

-- one claim more in it
noted : (claims : List Claimed) (many : ℕ) (k : Claimed) → many < length claims →
    claims_in (take (suc many) (set claims many k)) ≡ claims_in (take many claims) ++ (claim_in k ∷ [])
noted [] many k h = absurd (omega arith)
noted (x ∷ xs) zero k h = refl
noted (x ∷ xs) (suc many) k h = ap (λ (ks : List Claim). claim_in x ∷ ks) (noted xs many k (omega arith))

-- ---- giving

module _ {ps : List ℕ} {ds : List Dep} {G : Tables → Type 0} where
  pub gives_none : {out : List ℕ} {at : ℕ} {claims : List Claimed} {many : ℕ} →
      Gives ps ds G (λ T. []) out at claims many out at claims many
  unfolding made
  gives_none =
      record {
        many_is = λ T g. omega arith;
        given = λ T g cs first h x. rw (append-nil cs) x;
        grows = omega arith;
        near = λ h. h;
      }

  pub gives_then : {hs gs : Tables → List Head} {out out₁ out₂ : List ℕ} {at at₁ at₂ : ℕ}
      {claims claims₁ claims₂ : List Claimed} {many many₁ many₂ : ℕ} →
      Gives ps ds G hs out at claims many out₁ at₁ claims₁ many₁ →
      Gives ps ds G gs out₁ at₁ claims₁ many₁ out₂ at₂ claims₂ many₂ →
      Gives ps ds G (λ T. hs T ++ gs T) out at claims many out₂ at₂ claims₂ many₂
  gives_then {hs} {gs} a b =
      record {
        many_is = λ T g. omega (arith, a.many_is T g, b.many_is T g, length-append (hs T) (gs T));
        given = λ T g cs first h x.
            rw (← made_append ps ds T cs (hs T) (gs T))
            (b.given T g (cs ++ made ps ds T cs (hs T)) first h
            (a.given T g cs first (omega (arith, b.grows)) x));
        grows = omega (arith, a.grows, b.grows);
        near = λ h. b.near (a.near h);
      }

  -- the same heads in other words
  pub gives_as : {hs gs : Tables → List Head} {out out' : List ℕ} {at at' : ℕ}
      {claims claims' : List Claimed} {many many' : ℕ} → ((T : Tables) → G T → hs T ≡ gs T) →
      Gives ps ds G hs out at claims many out' at' claims' many' →
      Gives ps ds G gs out at claims many out' at' claims' many'
  gives_as e a =
      record {
        many_is = λ T g. rw (← e T g) (a.many_is T g);
        given = λ T g cs first h x. rw (← e T g) (a.given T g cs first h x);
        grows = a.grows;
        near = a.near;
      }

-- of fewer tables
pub gives_under : {ps : List ℕ} {ds : List Dep} {G F : Tables → Type 0} {hs : Tables → List Head}
    {out out' : List ℕ} {at at' : ℕ} {claims claims' : List Claimed} {many many' : ℕ} →
    ((T : Tables) → F T → G T) →
    Gives ps ds G hs out at claims many out' at' claims' many' →
    Gives ps ds F hs out at claims many out' at' claims' many'
gives_under e a =
    record {
      many_is = λ T g. a.many_is T (e T g);
      given = λ T g. a.given T (e T g);
      grows = a.grows;
      near = a.near;
    }

-- ---- one claim

module _
    {nest : DN.Nest} {ps own left : List ℕ} {kids : ℕ} {need sets : List ℕ} {claims : List Claimed} {d e : ℕ}
    (w : GiveRoom nest ps own left kids need sets claims d e)
  where
    pub long : d < e
    long = omega (arith, end-after ps w.shape d w.is-do, w.e_is)

    -- its DO is a byte, as its ENDDO is
    pub claim_small : d < 256
    claim_small = omega (arith, long, w.short)

    module _ {from upto few many : ℕ} (fewer : many < CLAIMS) (from_in : from ≤ e) (upto_small : upto < 256)
        {out mid out' : List ℕ} {at body next : ℕ}
        (line : Added (head_text d from upto) at out mid body) (short : body ≤ at + 9)
        (steps : LapsSay nest ps own left kids need sets (take many claims) d e from upto few mid body out' next)
      where
        ground : {T : Tables} {cs : List Claim} → GiveGround nest ps own left kids need sets d e T →
            bare_all cs ≡ claims_in (take many claims) →
            LapGround nest ps own left kids need sets (take many claims) d e T cs
        ground {cs = cs} g b =
            record {
              own_is = g.own_is;
              left_is = g.left_is;
              need_is = g.need_is;
              sets_is = g.sets_is;
              claims_are = λ l a t. rw (← b) (bare_found cs l a t);
            }

        -- the claim's text
        text : (T : Tables) (cs : List Claim) → GiveGround nest ps own left kids need sets d e T →
            few ≡ few_for T (head d from upto) → bare_all cs ≡ claims_in (take many claims) →
            Added (argument_text (claim_for ps (nest_in nest).deps T cs (head d from upto) ∷ [])) at out out' next
        unfolding steps_for
        text T cs g f b =
            let z = rw f at (steps.steps_are T cs (ground g b)) in
            added_as (one_text (claim_for ps (nest_in nest).deps T cs (head d from upto))) (added_then line z)

        pub gives_one :
            Gives ps (nest_in nest).deps
            (λ T. GiveGround nest ps own left kids need sets d e T × (few ≡ few_for T (head d from upto)))
            (λ T. head d from upto ∷ []) out at claims many out' next
            (set claims many record { d = d % 256; a = from % 256; b = upto % 256 }) (many + 1)
        unfolding made bare_all
        gives_one =
            record {
              many_is = λ T g. refl;
              given = λ T g cs first h x.
                  let k = claim_for ps (nest_in nest).deps T cs (head d from upto) in
                  record {
                    added = added_as (sym (text_append cs (k ∷ [])))
                        (added_then x.added (text T cs g.0 g.1 x.bare));
                    bare = bare_append cs (k ∷ []) ∙ rw x.bare (sym heads);
                  };
              grows = omega arith;
              near = λ h. omega (arith, steps.near, w.short);
            }
          where
            heads :
                claims_in (take (many + 1) (set claims many record { d = d % 256; a = from % 256; b = upto % 256 })) ≡
                claims_in (take many claims) ++ (claim d from upto [] ∷ [])
            heads =
                let m : many + 1 ≡ suc many = omega arith in
                let x : d % 256 ≡ d = omega (arith, claim_small) in
                let y : from % 256 ≡ from = omega (arith, w.short) in
                let z : upto % 256 ≡ upto = omega arith in
                rw (m, x, y, z) (noted claims many record { d = d; a = from; b = upto } (omega (arith, w.claims_room)))
