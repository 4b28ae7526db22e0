-- A request gives the tokens that its answer carries, and no other.
-- Assumes nothing.
use mathlib.Core.Path.{◌≡◌, refl}
use mathlib.Core.List.{List, [], ◌∷◌}
use Prim.Native.Nat.{ℕ, ◌≤◌}
use native.Mathlib.Omega.{arith}
use lib.ListN.{length}
use borrow.Author.Tests.{leb-true}
use Rattle.machine.specs.Given.{Given, Gives}
use Rattle.machine.specs.MachineSystem.{IsReset, resets}
use Rattle.machine.specs.Operations.{book, carried, grant}
use Rattle.machine.specs.Parts.{most_entries, size, State}
use Rattle.machine.specs.Requests.{Request}
use Rattle.machine.specs.Stops.{checks}
use Rattle.machine.specs.Writes.{opened}
use Rattle.machine.proofs.Decided.{accepted, Passed, sizes-passed}
use Rattle.machine.proofs.Grants.{either, granted_fits, unless}
use Rattle.machine.proofs.WriteLaws.{given-tokens, named_after, Told, Within}

module _ (m : ℕ) (s : State) (t : List ℕ) (b : List ℕ) where
  -- reset's root is issued, and no token is given
  first : (q : Request) → IsReset q → ((carried s t (grant m t q b)).issued ≡ record { number = 0; tag = 0 } ∷ []) × ((carried s t (grant m t q b)).reply.tokens ≡ [])
  first _ resets = (refl, refl)

  granted-gives : (q : Request) → Passed (checks m s t q b) → Gives q (carried s t (grant m t q b))
  granted-gives q p =
      let f = granted_fits m s t q b p in
      let z = sizes-passed m s t q b p in
      let two : 2 ≤ size t = leb-true 2 (size t) z.1.1.1.0 in
      let most : size t ≤ 1024 = leb-true (size t) most_entries z.1.1.1.1.0 in
      let g = grant m t q b in
      let told : Within (size t) g.writes → Told (size t) (book s t g) = λ w.
      named_after g.encoding (size t) f.encoding (omega arith) most (opened s t) g.writes w (record { sized = refl; named = refl; words = tt }) in
      record {
        carried = λ n. (told (unless f.within n)).named;
        root = first q;
        few = omega (arith, given-tokens g.encoding (opened s t) g.writes, f.few);
        words = either (λ r. rw (first q r).1 tt) (λ w. (told w).words) f.within;
      }

pub given : Given
unfolding Given
given σ q ok =
    let fine = accepted σ q ok in
    let g = granted-gives (length σ.memory) σ.state σ.table q.buffer q.request fine.0 in
    rw fine.1 (record { carried = g.carried; root = g.root; few = g.few; words = g.words })
