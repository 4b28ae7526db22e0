-- A system that shows another: each of its requests is one of the other's, or none. What demand 3 says of the other then holds of it. So calls of the exported
-- functions show the machine.
-- Assumes nothing.
use mathlib.Core.Path.{◌≡◌, refl, sym, ap, ap₂, subst, ◌∙◌}
use mathlib.Core.Logic.{inl, inr, ◌↔◌}
use mathlib.Core.List.Memᴰ
use mathlib.Core.List.{List, [], ◌∷◌, ◌++◌, Memᴰ}
use mathlib.Core.Option.{none, Option, some}
use Prim.Native.Nat.{ℕ}
use lib.ListN.{drop, get_or, replicate, take}
use Rattle.layout.specs.declared.entry.Entry.{Entry}
use Rattle.machine.specs.Demand3.{Alike, Closed, Demand3, FirstRevoke, Reset, Revoke, Secret}
use Rattle.machine.specs.Ledger.{earlier, Event, Gave, HeldOther, last, Returned}
use Rattle.machine.specs.Parts.{at}
use Rattle.machine.specs.Segments.{LockedFor, Under}
use Rattle.machine.specs.System.{AllSent, answers, event, ledger, Never, run, System}
use Rattle.machine.specs.Writes.{Name}

-- ---- ledgers, where events that issue nothing are left out

data Thin : (xs ys : List Event) → Type 0 where
  nil : Thin [] []
  both : {v : Event} {xs ys : List Event} → Thin xs ys → Thin (v ∷ xs) (v ∷ ys)
  idle : {w : Event} {xs ys : List Event} → w.issued ≡ [] → Thin xs ys → Thin (w ∷ xs) ys

record Found (k : Name) (v : Event) (since ys : List Event) : Type 0 where
  later : List Event
  gave : Gave k v later ys
  thin : Thin since later

thin_gave : {k : Name} {v : Event} {since xs ys : List Event} → Thin xs ys → Gave k v since xs → Found k v since ys
thin_gave nil g = elim g [ ]
thin_gave (both t) (last m) = record { later = []; gave = last m; thin = nil }
thin_gave (both {v = w} t) (earlier g) = let f = thin_gave t g in record { later = w ∷ f.later; gave = earlier f.gave; thin = both f.thin }
thin_gave {k} (idle e t) (last m) = absurd (Memᴰ.not-nil (subst (Memᴰ k) e m))
thin_gave (idle e t) (earlier g) = let f = thin_gave t g in record { later = f.later; gave = f.gave; thin = idle e f.thin }

thin_held : {xs ys : List Event} (k : Name) (v : Event) → Thin xs ys → HeldOther k v ys → HeldOther k v xs
thin_held k v nil h = h
thin_held k v (both t) (inl h) = inl h
thin_held k v (both t) (inr h) = inr (thin_held k v t h)
thin_held k v (idle e t) h = inr (thin_held k v t h)

thin_returned : {xs ys : List Event} (k : Name) (v : Event) → Thin xs ys → Returned k v ys → Returned k v xs
thin_returned k v nil r = r
thin_returned k v (both t) (inl r) = inl (r.0, thin_held k v t r.1)
thin_returned k v (both t) (inr r) = inr (thin_returned k v t r)
thin_returned k v (idle e t) r = inr (thin_returned k v t r)

-- ---- what a system shows of another

-- the request q over κ is the request r of B over σ
pub record Shows (A B : System) (κ : A.Standing) (q : A.Request) (σ : B.Standing) (r : B.Request) (answer : A.Answer) : Type 0 where
  pub answered : A.answer κ q ≡ answer
  pub granted : A.Granted κ q ↔ B.Granted σ r
  pub resets : A.Resets κ q ↔ B.Resets σ r
  pub revokes : (s : ℕ) → A.Revokes κ q s ↔ B.Revokes σ r s
  pub carries : (t : ℕ) → B.Carries σ r t → A.Carries κ q t
  pub through : (k : Name) → A.Through κ q k → B.Through σ r k
  pub issued : A.issued κ q ≡ B.issued σ r

-- the request q over κ is none of B's
pub record Idle (A : System) (κ : A.Standing) (q : A.Request) (answer : A.Answer) : Type 0 where
  pub answered : A.answer κ q ≡ answer
  pub resets : A.Resets κ q → ⊥
  pub revokes : (s : ℕ) → A.Revokes κ q s → ⊥
  pub through : (k : Name) → A.Through κ q k → ⊥
  pub issued : A.issued κ q ≡ []

pub record Simulates (A B : System) : Type 1 where
  -- what A's standing is to B, which request a request is, and what is answered by B's answer, or by none
  pub view : A.Standing → B.Standing
  pub means : A.Request → Option B.Request
  pub shown : A.Request → B.Answer → A.Answer
  pub spoken : A.Request → A.Answer
  -- what holds of A's standing from a granted reset on, and of a copy
  pub Good : A.Standing → Type 0
  pub good_first : (κ : A.Standing) (q : A.Request) → A.Whole κ → Reset A κ q → Good κ × B.Whole (view κ)
  pub good_copy : (e : Entry) (κ κ' : A.Standing) → Good κ → Alike A e κ κ' → Good κ'
  pub sent : (q : A.Request) (r : B.Request) → A.Sent q → means q ≡ some r → B.Sent r
  -- a request that is one of B's, and one that is none
  pub shows : (κ : A.Standing) (q : A.Request) (r : B.Request) → Good κ → means q ≡ some r → Shows A B κ q (view κ) r (shown q (B.answer (view κ) r))
  pub steps : (κ : A.Standing) (q : A.Request) (r : B.Request) → Good κ → A.Sent q → means q ≡ some r → (view (A.step κ q) ≡ B.step (view κ) r) × Good (A.step κ q)
  pub stored : (κ : A.Standing) (q : A.Request) (r : B.Request) → Good κ → means q ≡ some r → A.memory (A.step κ q) ≡ B.memory (B.step (view κ) r)
  pub idles : (κ : A.Standing) (q : A.Request) → Good κ → means q ≡ none → Idle A κ q (spoken q)
  pub stays : (κ : A.Standing) (q : A.Request) → Good κ → A.Sent q → means q ≡ none → (view (A.step κ q) ≡ view κ) × Good (A.step κ q)
  -- what is compared
  pub table : (κ : A.Standing) → A.table κ ≡ B.table (view κ)
  pub memory : (κ : A.Standing) → A.memory κ ≡ B.memory (view κ)
  pub other : (κ κ' : A.Standing) → A.other κ ≡ A.other κ' → B.other (view κ) ≡ B.other (view κ')
  pub other_back : (κ κ' : A.Standing) → Good κ → Good κ' → B.other (view κ) ≡ B.other (view κ') → A.other κ ≡ A.other κ'

module _ (A B : System) (Z : Simulates A B) where
  abbrev joined : Option B.Request → List B.Request → List B.Request
  joined (some r) rs = r ∷ rs
  joined none rs = rs

  -- the requests of B that a list is
  abbrev pub meant : List A.Request → List B.Request
  meant [] = []
  meant (q ∷ qs) = joined (Z.means q) (meant qs)

  -- what holds of no request, and is handed on by one that is B's and by one that is not, holds of a list and what it is
  module _ (P : A.Standing → List A.Request → List B.Request → Type 0)
      (nil : (κ : A.Standing) → Z.Good κ → P κ [] [])
      (one : (κ : A.Standing) (q : A.Request) (r : B.Request) (qs : List A.Request) (rs : List B.Request) → Z.Good κ → Z.means q ≡ some r → Z.view (A.step κ q) ≡ B.step (Z.view κ) r
      → P (A.step κ q) qs rs → P κ (q ∷ qs) (r ∷ rs))
      (skip : (κ : A.Standing) (q : A.Request) (qs : List A.Request) (rs : List B.Request) → Z.Good κ → Z.means q ≡ none → Z.view (A.step κ q) ≡ Z.view κ
      → P (A.step κ q) qs rs → P κ (q ∷ qs) rs) where
    pub by_list : (κ : A.Standing) (qs : List A.Request) → Z.Good κ → AllSent A qs → P κ qs (meant qs)
    by_list κ [] g b = nil κ g
    by_list κ (q ∷ qs) g b = go (Z.means q) refl (λ g. by_list (A.step κ q) qs g b.1)
      where
        go : (m : Option B.Request) → Z.means q ≡ m → (Z.Good (A.step κ q) → P (A.step κ q) qs (meant qs)) → P κ (q ∷ qs) (joined m (meant qs))
        go (some r) e f = let s = Z.steps κ q r g b.0 e in one κ q r qs (meant qs) g e s.0 (f s.1)
        go none e f = let s = Z.stays κ q g b.0 e in skip κ q qs (meant qs) g e s.0 (f s.1)

  -- what it leaves
  pub record Tracked (κ : A.Standing) (qs : List A.Request) (rs : List B.Request) : Type 0 where
    pub good : Z.Good (run A κ qs)
    pub left : Z.view (run A κ qs) ≡ run B (Z.view κ) rs

  pub tracks : (κ : A.Standing) (qs : List A.Request) → Z.Good κ → AllSent A qs → Tracked κ qs (meant qs)
  tracks =
      by_list Tracked (λ κ g. record { good = g; left = refl })
      (λ κ q r qs rs g e s t. record { good = t.good; left = t.left ∙ ap (λ σ. run B σ rs) s })
      (λ κ q qs rs g e s t. record { good = t.good; left = t.left ∙ ap (λ σ. run B σ rs) s })

  sent_list : (qs : List A.Request) → AllSent A qs → AllSent B (meant qs)
  sent_list [] b = tt
  sent_list (q ∷ qs) b = go (Z.means q) refl (sent_list qs b.1)
    where
      go : (m : Option B.Request) → Z.means q ≡ m → AllSent B (meant qs) → AllSent B (joined m (meant qs))
      go (some r) e f = (Z.sent q r b.0 e, f)
      go none e f = f

  -- where no request is such a one, none of B's is
  module _ (P : A.Standing → A.Request → Type 0) (Q : B.Standing → B.Request → Type 0)
      (of : (κ : A.Standing) (q : A.Request) (r : B.Request) → Z.Good κ → Z.means q ≡ some r → Q (Z.view κ) r → P κ q) where
    never_list : (κ : A.Standing) (qs : List A.Request) → Z.Good κ → AllSent A qs → Never A P κ qs → Never B Q (Z.view κ) (meant qs)
    never_list =
        by_list (λ κ qs rs. Never A P κ qs → Never B Q (Z.view κ) rs) (λ κ g n. tt)
        (λ κ q r qs rs g e s t n. ((λ h. n.0 (of κ q r g e h)), subst (λ σ. Never B Q σ rs) s (t n.1)))
        (λ κ q qs rs g e s t n. subst (λ σ. Never B Q σ rs) s (t n.1))

  reset_back : (κ : A.Standing) (q : A.Request) (r : B.Request) → Z.Good κ → Z.means q ≡ some r → Reset B (Z.view κ) r → Reset A κ q
  reset_back κ q r g e h = let s = Z.shows κ q r g e in (s.resets.1 h.0, s.granted.1 h.1)

  revoke_back : (s : ℕ) (κ : A.Standing) (q : A.Request) (r : B.Request) → Z.Good κ → Z.means q ≡ some r → Revoke B s (Z.view κ) r → Revoke A s κ q
  revoke_back s κ q r g e h = let z = Z.shows κ q r g e in ((z.revokes s).1 h.0, z.granted.1 h.1)

  -- what is answered
  abbrev told : Option B.Request → A.Request → List B.Answer → (List B.Answer → List A.Answer) → List A.Answer
  told (some r) q [] f = []
  told (some r) q (x ∷ xs) f = Z.shown q x ∷ f xs
  told none q xs f = Z.spoken q ∷ f xs

  abbrev all_told : List A.Request → List B.Answer → List A.Answer
  all_told [] xs = []
  all_told (q ∷ qs) xs = told (Z.means q) q xs (all_told qs)

  told_list : (κ : A.Standing) (qs : List A.Request) → Z.Good κ → AllSent A qs → answers A κ qs ≡ all_told qs (answers B (Z.view κ) (meant qs))
  told_list =
      by_list (λ κ qs rs. answers A κ qs ≡ all_told qs (answers B (Z.view κ) rs)) (λ κ g. refl)
      (λ κ q r qs rs g e s t. rw e (ap₂ ◌∷◌ (Z.shows κ q r g e).answered (t ∙ ap (λ σ. all_told qs (answers B σ rs)) s)))
      (λ κ q qs rs g e s t. rw e (ap₂ ◌∷◌ (Z.idles κ q g e).answered (t ∙ ap (λ σ. all_told qs (answers B σ rs)) s)))

  -- ledgers
  event_is : (κ : A.Standing) (q : A.Request) (r : B.Request) → Z.Good κ → Z.means q ≡ some r → Z.view (A.step κ q) ≡ B.step (Z.view κ) r → event A κ q ≡ event B (Z.view κ) r
  event_is κ q r g e s = ap₂ (λ (i : List Name) (t : List ℕ). record { issued = i; table = t }) (Z.shows κ q r g e).issued (Z.table (A.step κ q) ∙ ap B.table s)

  ledger_list : (κ : A.Standing) (qs : List A.Request) → Z.Good κ → AllSent A qs → (l m : List Event) → Thin l m → Thin (ledger A l κ qs) (ledger B m (Z.view κ) (meant qs))
  ledger_list =
      by_list (λ κ qs rs. (l m : List Event) → Thin l m → Thin (ledger A l κ qs) (ledger B m (Z.view κ) rs)) (λ κ g l m h. h)
      (λ κ q r qs rs g e s t l m h.
      subst (λ σ. Thin (ledger A l κ (q ∷ qs)) (ledger B (event B (Z.view κ) r ∷ m) σ rs)) s
      (t (event A κ q ∷ l) (event B (Z.view κ) r ∷ m) (subst (λ (v : Event). Thin (event A κ q ∷ l) (v ∷ m)) (event_is κ q r g e s) (both h))))
      (λ κ q qs rs g e s t l m h. subst (λ σ. Thin (ledger A l κ (q ∷ qs)) (ledger B m σ rs)) s (t (event A κ q ∷ l) m (idle (Z.idles κ q g e).issued h)))

  meant_append : (xs ys : List A.Request) → meant (xs ++ ys) ≡ meant xs ++ meant ys
  meant_append [] ys = refl
  meant_append (q ∷ xs) ys = go (Z.means q) (meant_append xs ys)
    where
      go : (m : Option B.Request) → meant (xs ++ ys) ≡ meant xs ++ meant ys → joined m (meant (xs ++ ys)) ≡ joined m (meant xs) ++ meant ys
      go (some r) e = ap (λ (rs : List B.Request). r ∷ rs) e
      go none e = e

  sent_append : (xs ys : List A.Request) → AllSent A xs → AllSent A ys → AllSent A (xs ++ ys)
  sent_append [] ys b c = c
  sent_append (q ∷ xs) ys b c = (b.0, sent_append xs ys b.1 c)

  -- ---- copies and tokens

  alike_view : (e : Entry) (κ κ' : A.Standing) → Alike A e κ κ' → Alike B e (Z.view κ) (Z.view κ')
  alike_view e κ κ' a = record {
    other = Z.other κ κ' a.other;
    table = sym (Z.table κ) ∙ a.table ∙ Z.table κ';
    memory = rw (← Z.memory κ, ← Z.memory κ') a.memory;
  }

  view_alike : (e : Entry) (κ κ' : A.Standing) → Z.Good κ → Z.Good κ' → Alike B e (Z.view κ) (Z.view κ') → Alike A e κ κ'
  view_alike e κ κ' g g' a = record {
    other = Z.other_back κ κ' g g' a.other;
    table = Z.table κ ∙ a.table ∙ sym (Z.table κ');
    memory = rw (Z.memory κ, Z.memory κ') a.memory;
  }

  closed_view : (κ : A.Standing) (k : Name) → Z.Good κ → Closed B (Z.view κ) k → Closed A κ k
  closed_view κ k g c q t a = go (Z.means q) refl
    where
      go : (m : Option B.Request) → Z.means q ≡ m → ⊥
      go (some r) e = let s = Z.shows κ q r g e in c r (s.through k t) (s.granted.0 a)
      go none e = (Z.idles κ q g e).through k t

  -- ---- the claim

  module _ (κ : A.Standing) (h : List A.Request) (s : ℕ) (e : Entry) (κ₁ κ₂ : A.Standing) (qs : List A.Request)
      (g : Z.Good κ) (bh : AllSent A h) (g₁ : Z.Good κ₁) (g₂ : Z.Good κ₂) (bq : AllSent A qs)
      (z : Secret B (Z.view κ) (meant h) s e (Z.view κ₁) (Z.view κ₂) (meant qs)) where
    t₁ : Tracked κ₁ qs (meant qs)
    t₁ = tracks κ₁ qs g₁ bq

    t₂ : Tracked κ₂ qs (meant qs)
    t₂ = tracks κ₂ qs g₂ bq

    unrevoked : Never A (Revoke A s) κ₁ qs → Never B (Revoke B s) (Z.view κ₁) (meant qs)
    unrevoked = never_list (Revoke A s) (Revoke B s) (revoke_back s) κ₁ qs g₁ bq

    -- the revoke r is one of B's
    module _ (r : A.Request) (p : B.Request) (m : Z.means r ≡ some p) (f : FirstRevoke A κ₁ s qs r) where
      first_revoke : FirstRevoke B (Z.view κ₁) s (meant qs) p
      first_revoke =
          let x = Z.shows (run A κ₁ qs) r p t₁.good m in
          record { before = unrevoked f.before; revoke = rw (← t₁.left) ((x.revokes s).0 f.revoke.0, x.granted.0 f.revoke.1) }

      wiped-shown : take e.length (drop e.base (A.memory (A.step (run A κ₁ qs) r))) ≡ replicate e.length 0
      wiped-shown =
          ap (λ (x : List ℕ). take e.length (drop e.base x)) (Z.stored (run A κ₁ qs) r p t₁.good m ∙ ap (λ σ. B.memory (B.step σ p)) t₁.left) ∙ z.wiped p first_revoke

      module _ (sr : A.Sent r) where
        after_revoke : (Z.view (A.step (run A κ₁ qs) r) ≡ B.step (run B (Z.view κ₁) (meant qs)) p) × Z.Good (A.step (run A κ₁ qs) r)
        after_revoke = let x = Z.steps (run A κ₁ qs) r p t₁.good sr m in (x.0 ∙ ap (λ σ. B.step σ p) t₁.left, x.1)

        closed-shown : (zs : List A.Request) → AllSent A zs → Never A (Reset A) (A.step (run A κ₁ qs) r) zs
            → (k : Name) (v : Event) (since : List Event) → Gave k v since (ledger A [] κ (h ++ qs)) → Under v.table e k
            → (Returned k v (ledger A since (run A κ (h ++ qs)) (r ∷ zs)) → ⊥) → Closed A (run A (A.step (run A κ₁ qs) r) zs) k
        closed-shown zs bz nz k v since gv u fr =
            let κ' = A.step (run A κ₁ qs) r in
            let bhq : AllSent A (h ++ qs) = sent_append h qs bh bq in
            let hq : meant (h ++ qs) ≡ meant h ++ meant qs = meant_append h qs in
            let there : Tracked κ (h ++ qs) (meant (h ++ qs)) = tracks κ (h ++ qs) g bhq in
            let end : Tracked κ' zs (meant zs) = tracks κ' zs after_revoke.1 bz in
            let found : Found k v since (ledger B [] (Z.view κ) (meant h ++ meant qs)) =
            subst (λ (rs : List B.Request). Found k v since (ledger B [] (Z.view κ) rs)) hq (thin_gave (ledger_list κ (h ++ qs) g bhq [] [] nil) gv) in
            let more : Thin (ledger A since (run A κ (h ++ qs)) (r ∷ zs)) (ledger B found.later (run B (Z.view κ) (meant h ++ meant qs)) (p ∷ meant zs)) =
            subst (λ (rs : List B.Request). Thin (ledger A since (run A κ (h ++ qs)) (r ∷ zs)) (ledger B found.later (run B (Z.view κ) rs) (p ∷ meant zs))) hq
            (subst (λ σ. Thin (ledger A since (run A κ (h ++ qs)) (r ∷ zs)) (ledger B found.later σ (p ∷ meant zs))) there.left
            (subst (λ (x : Option B.Request). Thin (ledger A since (run A κ (h ++ qs)) (r ∷ zs)) (ledger B found.later (Z.view (run A κ (h ++ qs))) (joined x (meant zs)))) m
            (ledger_list (run A κ (h ++ qs)) (r ∷ zs) there.good (sr, bz) since found.later found.thin))) in
            closed_view (run A κ' zs) k end.good
            (rw (end.left ∙ ap (λ σ. run B σ (meant zs)) after_revoke.0)
            (z.closed p first_revoke (meant zs) (Z.sent r p sr m, sent_list zs bz)
            (subst (λ σ. Never B (Reset B) σ (meant zs)) after_revoke.0 (never_list (Reset A) (Reset B) reset_back κ' zs after_revoke.1 bz nz))
            k v found.later found.gave u (λ x. fr (thin_returned k v more x))))

    -- a revoke is one of B's
    by_revoke : (P : Type 0) (r : A.Request) → FirstRevoke A κ₁ s qs r → ((p : B.Request) → Z.means r ≡ some p → P) → P
    by_revoke P r f one = go (Z.means r) refl
      where
        go : (x : Option B.Request) → Z.means r ≡ x → P
        go (some p) m = one p m
        go none m = absurd ((Z.idles (run A κ₁ qs) r t₁.good m).revokes s f.revoke.0)

    secret_shown : Secret A κ h s e κ₁ κ₂ qs
    secret_shown = record {
      same = told_list κ₁ qs g₁ bq ∙ ap (all_told qs) z.same ∙ sym (told_list κ₂ qs g₂ bq);
      alike = view_alike e (run A κ₁ qs) (run A κ₂ qs) t₁.good t₂.good (rw (t₁.left, t₂.left) z.alike);
      kept = λ n x i. ap (λ (m : List ℕ). get_or m x 0) (Z.memory (run A κ₁ qs) ∙ ap B.memory t₁.left) ∙ z.kept (unrevoked n) x i ∙ ap (λ (m : List ℕ). get_or m x 0) (sym (Z.memory κ₁));
      wiped = λ r f. by_revoke (take e.length (drop e.base (A.memory (A.step (run A κ₁ qs) r))) ≡ replicate e.length 0) r f (λ p m. wiped-shown r p m f);
      closed = λ r f zs bz nz k v since gv u fr. by_revoke (Closed A (run A (A.step (run A κ₁ qs) r) zs) k) r f (λ p m. closed-shown r p m f bz.0 zs bz.1 nz k v since gv u fr);
    }

  -- what demand 3 says of the second half, over what the first list left, which is called μ, with the table T
  abbrev Claimed : (σ μ : B.Standing) (H : List B.Request) (s t : ℕ) (T : List ℕ) → Type 0
  Claimed σ μ H s t T =
      LockedFor T s t → (τ₁ τ₂ : B.Standing) → Alike B (at T s) μ τ₁ → Alike B (at T s) μ τ₂
      → (qs : List B.Request) → AllSent B qs → Never B B.Resets μ qs → Never B (λ τ q. B.Carries τ q t) μ qs
      → Secret B σ H s (at T s) τ₁ τ₂ qs

  claimed : (σ : B.Standing) (H : List B.Request) (s t : ℕ) → Claimed σ (run B σ H) H s t (B.table (run B σ H)) → (μ : B.Standing) (T : List ℕ) → run B σ H ≡ μ → B.table μ ≡ T → Claimed σ μ H s t T
  claimed σ H s t d μ T is-μ is_T = subst (Claimed σ μ H s t) is_T (subst (λ (μ : B.Standing). Claimed σ μ H s t (B.table μ)) is-μ d)

  -- a system that shows another has its demand 3
  pub shown_claim : Demand3 B → Demand3 A
  unfolding Demand3
  shown_claim d κ w first reset rest snt nr s t lk κ₁ κ₂ a₁ a₂ qs sq nq nc = go (Z.means first) refl
    where
      h : List A.Request
      h = first ∷ rest

      μ : A.Standing
      μ = run A κ h

      e : Entry
      e = at (A.table μ) s

      start : Z.Good κ × B.Whole (Z.view κ)
      start = Z.good_first κ first w reset

      tr : Tracked κ h (meant h)
      tr = tracks κ h start.0 snt

      go : (m : Option B.Request) → Z.means first ≡ m → Secret A κ h s e κ₁ κ₂ qs
      go none m = absurd ((Z.idles κ first start.0 m).resets reset.0)
      go (some r) m =
          let H : List B.Request = r ∷ meant rest in
          let list : meant h ≡ H = ap (λ (x : Option B.Request). joined x (meant rest)) m in
          let sh = Z.shows κ first r start.0 m in
          let st = Z.steps κ first r start.0 snt.0 m in
          let left : run B (Z.view κ) H ≡ Z.view μ = ap (run B (Z.view κ)) (sym list) ∙ sym tr.left in
          let none_reset : Never B (Reset B) (B.step (Z.view κ) r) (meant rest) =
          subst (λ σ. Never B (Reset B) σ (meant rest)) st.0 (never_list (Reset A) (Reset B) reset_back (A.step κ first) rest st.1 snt.1 nr) in
          let all = d (Z.view κ) start.1 r (sh.resets.0 reset.0, sh.granted.0 reset.1) (meant rest) (Z.sent first r snt.0 m, sent_list rest snt.1) none_reset s t in
          secret_shown κ h s e κ₁ κ₂ qs start.0 snt (Z.good_copy e μ κ₁ tr.good a₁) (Z.good_copy e μ κ₂ tr.good a₂) sq
          (rw list
          (claimed (Z.view κ) H s t all (Z.view μ) (A.table μ) left (sym (Z.table μ)) lk (Z.view κ₁) (Z.view κ₂) (alike_view e μ κ₁ a₁) (alike_view e μ κ₂ a₂)
          (meant qs) (sent_list qs sq)
          (never_list A.Resets B.Resets (λ κ q r g m h. (Z.shows κ q r g m).resets.1 h) μ qs tr.good sq nq)
          (never_list (λ τ q. A.Carries τ q t) (λ τ q. B.Carries τ q t) (λ κ q r g m h. (Z.shows κ q r g m).carries t h) μ qs tr.good sq nc)))
