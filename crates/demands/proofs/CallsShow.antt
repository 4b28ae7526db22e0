-- Calls of the exported functions show the machine: a call is a request of it, or none.
-- Assumes nothing.
use mathlib.Core.Path.{◌≡◌, refl, sym, ap, ap₂, subst, ◌∙◌}
use mathlib.Core.Logic.{◌↔◌}
use mathlib.Core.Bool.{cond}
use mathlib.Core.List.{List, [], ◌∷◌, ◌++◌}
use mathlib.Core.Option.{none, Option, some}
use Prim.Native.Nat.{ℕ, ◌^◌, ◌≤◌, ◌<◌}
use native.Mathlib.Nat.{mod-eq_of_lt}
use native.Mathlib.Omega.{arith}
use lib.Dec.{eqb}
use lib.ListN.{get_or, length}
use borrow.Author.Tests.{ne_eqb}
use Rattle.bits.specs.SipHash.{word}
use Rattle.machine.specs.Given.{AllWords, Given, Gives, name_in, names_in}
use Rattle.machine.specs.MachineSystem.{Accepted, IsReset, of_machine, resets, Revokes, Through}
use Rattle.machine.specs.Operations.{Reply}
use Rattle.machine.specs.Requests.{Call, Request, task_of}
use Rattle.machine.specs.Steps as steps
use Rattle.machine.specs.Steps.{Answer, decision, Machine, run}
use Rattle.machine.specs.Writes.{Name}
use Rattle.machine.proofs.Decided.{away, taken, Turned, turned}
use Rattle.machine.proofs.Given.{given}
use Rattle.machine.proofs.Simulation.{by_list, Idle, meant, Shows, Simulates, tracks}
use Rattle.demands.specs.Demands.{after, Asks, asks, Back, back_by, Brought, Bytes, call, call_of, given_by, gives, joined, left_by, machine, next, of_calls, requested, root_in, Standing, tokens_in}
use Rattle.interface.specs.Exported.{answer_bytes, Asked, Exported, known, state_bytes, state_of, told, unknown, word_bytes}
use Rattle.interface.proofs.CallLaws.{known-sizes}
use Rattle.interface.proofs.WordLaws.{word_of}
use Rattle.demands.proofs.OneCall.{ask, asks_alone, called_as, first, Kind, kind_of, other, steps_to, Whole, whole-bytes}

-- ---- what a call gives is what its request issues

-- a granted call is a granted request
granted_as : (κ : Standing) (q : Brought) (r : Request) → asks κ q ≡ known r → (call κ q).result ≡ 0 → Accepted (machine κ) (call_of r q)
granted_as κ q r e h = sym (ap (λ (x : Exported). x.result) (called_as κ q (known r) e)) ∙ h

as_granted : (κ : Standing) (q : Brought) (r : Request) → asks κ q ≡ known r → Accepted (machine κ) (call_of r q) → (call κ q).result ≡ 0
as_granted κ q r e h = ap (λ (x : Exported). x.result) (called_as κ q (known r) e) ∙ h

-- a word of an answer, where it is one
word_is : (ws : List ℕ) (i : ℕ) → get_or ws i 0 < 2 ^ 64 → word (word_bytes ws) i ≡ get_or ws i 0
word_is ws i h = word_of ws i ∙ mod-eq_of_lt h

-- the tokens of an answer are read out of its bytes
tokens-read : (ks : List ℕ) (x y : ℕ) (zs : List ℕ) → length ks ≤ 2 → AllWords ks → tokens_in (word_bytes (x ∷ y ∷ get_or ks 0 0 ∷ get_or ks 1 0 ∷ zs)) (length ks) ≡ names_in ks
tokens-read [] x y zs h w = refl
tokens-read (j ∷ []) x y zs h w = ap (λ (a : ℕ). name_in a ∷ []) (word_is (x ∷ y ∷ j ∷ 0 ∷ zs) 2 w.0)
tokens-read (j ∷ k ∷ []) x y zs h w =
    let ws : List ℕ = x ∷ y ∷ j ∷ k ∷ zs in
    ap₂ (λ (a b : ℕ). name_in a ∷ name_in b ∷ []) (word_is ws 2 w.0) (word_is ws 3 w.1.0)
tokens-read (j ∷ k ∷ l ∷ ks) x y zs h w = absurd (omega arith)

module _ (κ : Standing) (q : Brought) (r : Request) (e : asks κ q ≡ known r) where
  abbrev σ : Machine
  σ = machine κ

  abbrev c : Call
  c = call_of r q

  abbrev reply : Reply
  reply = (steps.answer σ c).reply

  abbrev read : List Name
  read = root_in q.request ++ tokens_in (answer_bytes reply) (length reply.tokens)

  root-given : Accepted σ c → read ≡ (decision σ c).issued
  unfolding steps.answer Given
  root-given ok = go r refl (kind_of κ q r e)
    where
      g : Gives r (decision σ c)
      g = given σ c ok

      go : (p : Request) → p ≡ r → Kind (word q.request 0) (word q.request 1) (word q.request 2) (known p) → read ≡ (decision σ c).issued
      go _ is (first u z) = rw (z, (g.root (subst IsReset is resets)).1) (sym (g.root (subst IsReset is resets)).0)
      go p is (other z n) = rw (ne_eqb _ 0 z) (tokens-read reply.tokens _ _ _ g.few g.words ∙ sym (g.carried (λ i. n (subst IsReset (sym is) i))))

  given_as : gives κ q ≡ (decision σ c).issued
  given_as = ap (given_by κ q) e ∙ go (turned σ c)
    where
      go : Turned σ c → given_by κ q (known r) ≡ (decision σ c).issued
      go (taken ok p d) = rw (called_as κ q (known r) e) (ap (λ (n : ℕ). cond (eqb n 0) read []) ok ∙ root-given ok)
      go (away x d na) = rw (called_as κ q (known r) e, ne_eqb _ 0 na, d)

  -- what the call asks is r
  asked_is : (P : Request → Type 0) → Asks P κ q ↔ P r
  asked_is P = ((λ a. let z : a.request ≡ r = cc in subst P z a.such), (λ p. record { request = r; asked = e; such = p }))

-- ---- a call is a request, or none

perhaps : Asked → Brought → Option Call
perhaps (known r) q = some (call_of r q)
perhaps unknown q = none

record Meaning (q : Brought) (c : Call) : Type 0 where
  request : Request
  asked : ask q ≡ known request
  call : c ≡ call_of request q

meaning : (q : Brought) (c : Call) → perhaps (ask q) q ≡ some c → Meaning q c
unfolding perhaps
meaning q c e = go (ask q) refl e
  where
    go : (k : Asked) → ask q ≡ k → perhaps k q ≡ some c → Meaning q c
    go (known r) h e = let z : call_of r q ≡ c = cc in record { request = r; asked = h; call = sym z }
    go unknown h e = let z : ◌≡◌ {A = ℕ} 0 1 = cc in absurd (omega arith)

meaningless : (q : Brought) → perhaps (ask q) q ≡ none → ask q ≡ unknown
unfolding perhaps
meaningless q e = go (ask q) refl e
  where
    go : (k : Asked) → ask q ≡ k → perhaps k q ≡ none → ask q ≡ unknown
    go (known r) h e = let z : ◌≡◌ {A = ℕ} 0 1 = cc in absurd (omega arith)
    go unknown h e = h

-- what is handed back
shown : Brought → Answer → Back
shown q a = record { result = a.reply.refusal; buffer = a.buffer; answer = answer_bytes a.reply }

spoken : Brought → Back
spoken q = record { result = 1; buffer = q.buffer; answer = told q.answer }

shows_known : (κ : Standing) (q : Brought) (r : Request) → asks κ q ≡ known r → Shows of_calls of_machine κ q (machine κ) (call_of r q) (shown q (steps.answer (machine κ) (call_of r q)))
unfolding shown
shows_known κ q r h = record {
  answered = ap back_by (called_as κ q (known r) h);
  granted = (granted_as κ q r h, as_granted κ q r h);
  resets = asked_is κ q r h IsReset;
  revokes = λ s. asked_is κ q r h (λ p. Revokes p s);
  carries = λ t. (asked_is κ q r h (λ p. task_of p ≡ t)).1;
  through = λ k. (asked_is κ q r h (λ p. Through p k)).0;
  issued = given_as κ q r h;
}

never-asks : (P : Request → Type 0) (κ : Standing) (q : Brought) → asks κ q ≡ unknown → Asks P κ q → ⊥
never-asks P κ q h a = let z : ◌≡◌ {A = ℕ} 0 1 = let b = a.asked in cc in omega arith

idles_unknown : (κ : Standing) (q : Brought) → asks κ q ≡ unknown → Idle of_calls κ q (spoken q)
unfolding spoken
idles_unknown κ q h = record {
  answered = ap back_by (called_as κ q unknown h);
  resets = never-asks IsReset κ q h;
  revokes = λ s. never-asks (λ p. Revokes p s) κ q h;
  through = λ k. never-asks (λ p. Through p k) κ q h;
  issued = ap (given_by κ q) h;
}

pub shows_machine : Simulates of_calls of_machine
shows_machine = record {
  view = machine;
  means = λ q. perhaps (ask q) q;
  shown = shown;
  spoken = spoken;
  Good = Whole;
  good_first = λ κ q w g. (whole-bytes κ w (known-sizes q.request κ.state q.answer q.lent g.0.request (sym g.0.asked)).0, tt);
  good_copy = λ e κ κ' g a. let s : κ.state ≡ κ'.state = a.other in record { sized = rw (← s) g.sized; bytes = rw (← s) g.bytes; fits = rw (← s) g.fits };
  sent = λ q r s e. tt;
  shows = λ κ q c g e. let m = meaning q c e in subst (λ (c : Call). Shows of_calls of_machine κ q (machine κ) c (shown q (steps.answer (machine κ) c))) (sym m.call) (shows_known κ q m.request (asks_alone κ q g.sized ∙ m.asked));
  steps = λ κ q c g b e. let m = meaning q c e in let s = steps_to κ q m.request g b (asks_alone κ q g.sized ∙ m.asked) in (s.0 ∙ ap (steps.step (machine κ)) (sym m.call), s.1);
  stored = λ κ q c g e. let m = meaning q c e in ap (λ (x : Exported). x.memory) (called_as κ q (known m.request) (asks_alone κ q g.sized ∙ m.asked)) ∙ ap (λ (c : Call). (steps.step (machine κ) c).memory) (sym m.call);
  idles = λ κ q g e. idles_unknown κ q (asks_alone κ q g.sized ∙ meaningless q e);
  stays = λ κ q g b e. let s : next κ q ≡ κ = ap left_by (called_as κ q unknown (asks_alone κ q g.sized ∙ meaningless q e)) in (ap machine s, subst Whole (sym s) g);
  table = λ κ. refl;
  memory = λ κ. refl;
  other = λ κ κ' e. ap state_of e;
  other_back = λ κ κ' g g' e. sym g.bytes ∙ ap state_bytes e ∙ g'.bytes;
}

-- ---- a list of calls is the list of the requests that they ask

requested_meant : (κ : Standing) (qs : List Brought) → Whole κ → Bytes qs → requested κ qs ≡ meant of_calls of_machine shows_machine qs
unfolding shows_machine
requested_meant =
    by_list of_calls of_machine shows_machine (λ κ qs cs. requested κ qs ≡ cs) (λ κ w. refl)
    (λ κ q c qs cs w e s t.
    let m = meaning q c e in
    ap (λ (k : Asked). joined k q (requested (next κ q) qs)) (asks_alone κ q w.sized ∙ m.asked) ∙ ap₂ (λ (c : Call) (cs : List Call). c ∷ cs) (sym m.call) t)
    (λ κ q qs cs w e s t. ap (λ (k : Asked). joined k q (requested (next κ q) qs)) (asks_alone κ q w.sized ∙ meaningless q e) ∙ t)

pub requested_left : (κ : Standing) (qs : List Brought) → Whole κ → Bytes qs → machine (after κ qs) ≡ run (machine κ) (requested κ qs)
unfolding shows_machine
requested_left κ qs w b = (tracks of_calls of_machine shows_machine κ qs w b).left ∙ ap (run (machine κ)) (sym (requested_meant κ qs w b))
