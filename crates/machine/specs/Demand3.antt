-- Demand 3 (00, with 01, "The lists of demand 3", and 02, paper 5), once, of any system: one claim about whole lists of requests.
-- Assumes nothing.
use Rattle.std.specs.Prelude.{◌≡◌, List, [], ◌∷◌, ◌++◌, ℕ, drop, get_or, length, replicate, take}
use Rattle.layout.specs.declared.entry.Entry.{Entry}
use Rattle.machine.specs.Ledger.{Event, Gave, Returned}
use Rattle.machine.specs.Parts.{at}
use Rattle.machine.specs.Segments.{In, LockedFor, Under}
use Rattle.machine.specs.System.{AllSent, answers, ledger, Never, run, System}
use Rattle.machine.specs.Writes.{Name}

-- two memories "differ only in bytes of this segment", that of e
pub record Differ (e : Entry) (m n : List ℕ) : Type 0 where
  pub long : length m ≡ length n
  pub outside : (x : ℕ) → (In e x → ⊥) → get_or m x 0 ≡ get_or n x 0

module _ (S : System) where
  -- two copies differ only so: "The copies begin with equal table and state." "Equal counters means equal states."
  pub record Alike (e : Entry) (σ τ : S.Standing) : Type 0 where
    pub other : S.other σ ≡ S.other τ
    pub table : S.table σ ≡ S.table τ
    pub memory : Differ e (S.memory σ) (S.memory τ)

  -- "Accepted means granted": a granted reset, and a granted revoke of entry s
  abbrev pub Reset : S.Standing → S.Request → Type 0
  Reset σ q = S.Resets σ q × S.Granted σ q

  abbrev pub Revoke : ℕ → S.Standing → S.Request → Type 0
  Revoke s σ q = S.Revokes σ q s × S.Granted σ q

  -- after the requests qs, of which none is an accepted revoke of entry s, the request r is one
  pub record FirstRevoke (τ : S.Standing) (s : ℕ) (qs : List S.Request) (r : S.Request) : Type 0 where
    pub before : Never S (Revoke s) τ qs
    pub revoke : Revoke s (run S τ qs) r

  -- "It opens an access if one through it would be granted, to whatever task": none is, whatever it brings
  abbrev pub Closed : S.Standing → Name → Type 0
  Closed σ k = (q : S.Request) → S.Through σ q k → S.Granted σ q → ⊥

  -- What holds of two copies τ₁ and τ₂ of what the list h left over σ, and of a further list qs. s is the locked entry and e what it then was. As
  -- qs is any list, all of this holds after each of its requests; as either copy may be called τ₁, it holds of both.
  pub record Secret (σ : S.Standing) (h : List S.Request) (s : ℕ) (e : Entry) (τ₁ τ₂ : S.Standing) (qs : List S.Request) : Type 0 where
    -- "Every answer is the same in both, bytes read included,"
    pub same : answers S τ₁ qs ≡ answers S τ₂ qs
    -- "and after each request tables, counters and memory outside the segment are equal."
    pub alike : Alike e (run S τ₁ qs) (run S τ₂ qs)
    -- "Up to the first accepted revoke of the segment each of its bytes stays as its own copy had it."
    pub kept : Never S (Revoke s) τ₁ qs → (x : ℕ) → In e x → get_or (S.memory (run S τ₁ qs)) x 0 ≡ get_or (S.memory τ₁) x 0
    -- "That revoke turns all of it to zeros,"
    pub wiped : (r : S.Request) → FirstRevoke τ₁ s qs r → take e.length (drop e.base (S.memory (S.step (run S τ₁ qs) r))) ≡ replicate e.length 0
    -- "and from then on, whatever requests but a reset follow, also ones carrying t, no token given before the revoke for the segment or derived
    -- under it opens an access, unless the same number and tag were issued again after that token was given." 02, paper 5: "The exception for reissued tokens in the
    -- lock's guarantee remains only where the number held another tag between the token's giving and its issuing again." The token k was given by the event v of
    -- what came before the revoke r; zs is what follows r.
    pub closed :
        (r : S.Request) → FirstRevoke τ₁ s qs r → (zs : List S.Request) → AllSent S (r ∷ zs) → Never S Reset (S.step (run S τ₁ qs) r) zs
        → (k : Name) (v : Event) (since : List Event) → Gave k v since (ledger S [] σ (h ++ qs))
        → Under v.table e k
        → (Returned k v (ledger S since (run S σ (h ++ qs)) (r ∷ zs)) → ⊥)
        → Closed (run S (S.step (run S τ₁ qs) r) zs) k

  unfoldable pub Demand3 : Type 0
  Demand3 =
      -- "For every list of one reset and any requests after it, refused ones included," "The first list begins with its one granted reset, over any table, memory,
      -- key and first nonce."
      (σ : S.Standing) → S.Whole σ →
      (first : S.Request) → Reset σ first →
      (rest : List S.Request) → AllSent S (first ∷ rest) → Never S Reset (S.step σ first) rest →
      let h : List S.Request = first ∷ rest in
      -- "that leaves a direct segment locked for task t:"
      (s t : ℕ) → LockedFor (S.table (run S σ h)) s t →
      let e : Entry = at (S.table (run S σ h)) s in
      -- "let two copies of what then stands differ only in bytes of this segment,"
      (τ₁ τ₂ : S.Standing) → Alike e (run S σ h) τ₁ → Alike e (run S σ h) τ₂ →
      -- "and give both the same further list of requests, whichever it is, refused ones included, none a reset and none carrying t."
      (qs : List S.Request) → AllSent S qs → Never S S.Resets (run S σ h) qs → Never S (λ τ q. S.Carries τ q t) (run S σ h) qs →
      Secret σ h s e τ₁ τ₂ qs
