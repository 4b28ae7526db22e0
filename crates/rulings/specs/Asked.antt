-- The code's requests, in the machine's terms.
-- Assumes nothing.
use Rattle.std.specs.Prelude.{List, ℕ}
use Rattle.checks.specs.Shifts.{shift_as}
use Rattle.machine.specs.Requests as request
use Rattle.rulings.specs.declared.request.Access.{Access}
use Rattle.rulings.specs.declared.request.Create.{Create}
use Rattle.rulings.specs.declared.request.Derive.{Derive}
use Rattle.rulings.specs.declared.request.Image.{Image}
use Rattle.rulings.specs.declared.request.Image.TheVariants.{Dump, Load}
use Rattle.rulings.specs.declared.request.ImageAccess.{ImageAccess}
use Rattle.rulings.specs.declared.request.Merge.{Merge}
use Rattle.rulings.specs.declared.request.PageIn.{PageIn}
use Rattle.rulings.specs.declared.request.PageOut.{PageOut}
use Rattle.rulings.specs.declared.request.Request.{Request}
use Rattle.rulings.specs.declared.request.Request.TheVariants as code
use Rattle.rulings.specs.declared.request.Reset.{Reset}
use Rattle.rulings.specs.declared.request.Way.{Way}
use Rattle.rulings.specs.declared.request.Way.TheVariants.{Fetch, Read, Write}

abbrev pub way_as : Way → request.Way
way_as Read = request.reading
way_as Write = request.writing
way_as Fetch = request.fetching

abbrev pub image_as : Image → request.Access
image_as Load = request.loading
image_as Dump = request.dumping

-- requests that carry more than two words
abbrev pub reset_as : Reset → request.Request
reset_as q = request.reset q.key0 q.key1 q.first_nonce

abbrev pub create_as : Create → request.Request
create_as q = request.create q.token q.task q.length q.user q.permissions q.encoding

abbrev pub merge_as : Merge → request.Request
merge_as q = request.merge q.first q.second q.task q.encoding

abbrev pub derive_as : Derive → request.Request
derive_as q = request.derive q.token q.offset q.length q.permissions q.encoding

abbrev pub page_out_as : PageOut → request.Request
page_out_as q = request.page_out q.token q.task q.page q.encoding

abbrev pub page_in_as : PageIn → request.Request
page_in_as q = request.page_in q.token q.donor q.task q.encoding

-- with the leases that are lent with it
abbrev pub access_as : Access → (leases : List ℕ) → request.Request
access_as q ls = request.access (way_as q.way) q.token q.task (shift_as q.minute ls)

abbrev pub image_access_as : ImageAccess → (leases : List ℕ) → request.Request
image_access_as q ls = request.accessing (image_as q.kind) q.token q.task (shift_as q.minute ls)

abbrev pub request_as : Request → (leases : List ℕ) → request.Request
request_as (code.Reset q) ls = reset_as q
request_as (code.Access q) ls = access_as q ls
request_as (code.Image q) ls = image_access_as q ls
request_as (code.Create q) ls = create_as q
request_as (code.Merge q) ls = merge_as q
request_as (code.Derive q) ls = derive_as q
request_as (code.ExecuteOnly k c) ls = request.execute_only k c
request_as (code.Clone k) ls = request.clone k
request_as (code.Drop k) ls = request.release k
request_as (code.Lock k u) ls = request.lock k u
request_as (code.Unlock k u) ls = request.unlock k u
request_as (code.Revoke k c) ls = request.revoke k c
request_as (code.PageOut q) ls = page_out_as q
request_as (code.PageIn q) ls = page_in_as q
