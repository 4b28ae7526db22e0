-- Sessions as the second implementation (bench/model, written from the papers alone) served them: its answers, its state and the bytes of its table. No number
-- here was had from the definitions; bench/model/tests/recordings.rs holds the model to each row. A granted row: tokens, drop's number, last number, next
-- nonce, free total, effect; a dump: its text's length, last number, next nonce, free total, effect; a refused one: refusal, which entry was bad, last number,
-- next nonce, free total. The model hands back buffer and memory; an effect is told by which of their bytes changed.
-- Assumes nothing.
use Rattle.std.specs.Prelude.{List, [], ◌∷◌, ℕ}
use Rattle.layout.specs.Examples.{Row}
use Rattle.machine.specs.Operations.{fetch, nothing, store, text}
use Rattle.recorded.specs.Recorded.{dumps, during, grants, known, limit, moves, over, refuses, Session, takes, zeros}
use Rattle.machine.specs.Requests.{access, clone, create, derive, dump, execute_only, fetching, load, lock, merge, no_shift, page_in, page_out, reading, release, reset, revoke, unlock, writing}
use Rattle.recorded.specs.Session.{plain}

-- a text of an end record alone
abbrev ended : List ℕ
ended = 58 ∷ 48 ∷ 48 ∷ 48 ∷ 48 ∷ 48 ∷ 48 ∷ 48 ∷ 49 ∷ 70 ∷ 70 ∷ 10 ∷ []

-- A table that no reset leaves. Entry n has tag a0 + n, hex. 0, 3, 4, 13 and 14 are direct, 3 not Lockable; 1 is locked for 7 and not Lockable, and 2 is under it; 5 and 11 are
-- ill-formed, 6 is under 5; 7 has a parent token with another tag, 8 is under 7; 9 is under 3, with count 65,534; 10 has no older parent; 12 is under 4.
abbrev handed : List ℕ
handed =
    0x200000000000000200000000000000000000000000000000017a00a00000000a
    ∷ 0x2000000200000002000000000000000001c000000000000000fc00a10000000b
    ∷ 0x400000024805080000000000200000010000200000000000002000a200000014
    ∷ 0x200000040000000100000000000000000000000000000000019800a30000000c
    ∷ 0x200000050000000100000000000000000000000000000000023200a40000000d
    ∷ 0x200000000000000000002000000000000000000000000000003a00a50000000e
    ∷ 0x400000000805280000000000a00000008000200000000000003800a60000001e
    ∷ 0x400000060805f00000000001c00000010000400000000000002000a70000001f
    ∷ 0x400000060805380000000000e00000008000200000000000002000a800000020
    ∷ 0x400000040805180000000000600000011fffc00000000000000800a900000021
    ∷ 0x400000050805200000000000800000008000200000000000003000aa0000000d
    ∷ 0x800000000000000000000000000000000000000000000000000000ab00000000
    ∷ 0x400000050805200000000000800000008000200000000000003000ac00000022
    ∷ 0x200000070000000100000000000000000000000000000000003a00ad00000010
    ∷ 0x200000060000000100002000000000000000000000000000003a00ae00000011
    ∷ 0
    ∷ []

-- from reset on: every operation, each encoding, a lock, a drop under it and a drop that climbs
abbrev from_reset : Session
from_reset = record {
  memory = 24;
  state = known 0 0 0 0 9;
  table = 0 ∷ 0 ∷ 0 ∷ 0 ∷ 0 ∷ [];
  rows =
      grants (plain (reset 0x706050403020100 0xf0e0d0c0b0a0908 1)) [] 0 0 1 4 nothing
      ∷ grants (plain (create 0 0 8 9 6 2)) (0xafb3c00000010000 ∷ 0x898ac00000000000 ∷ []) 0 1 3 3 nothing
      ∷ grants (plain (derive 0xafb3c00000010000 2 5 6 3)) (0xf5c0000002000000 ∷ []) 0 2 4 2 nothing
      ∷ grants (plain (derive 0xf5c0000002000000 1 2 4 1)) (0x5cc2000000000003 ∷ []) 0 3 5 1 nothing
      ∷ grants (plain (execute_only 0x898ac00000000000 0)) (0x3259800400000000 ∷ []) 0 4 6 0 nothing
      ∷ refuses (plain (execute_only 0x898ac00000000000 0)) 10 0 4 6 0
      ∷ refuses (plain (derive 0xafb3c00000010000 0 1 0 0)) 10 0 4 6 0
      ∷ refuses (plain (create 0xafb3c00000010000 0 8 0 0 0)) 9 0 4 6 0
      -- accesses at a segment's edges
      ∷ grants (over (zeros 13) (access reading 0x898ac00000000003 0 no_shift)) [] 0 4 6 0 (fetch 11 13)
      ∷ grants (over (200 ∷ []) (access writing 0xf5c0000002000004 0 no_shift)) [] 0 4 6 0 (store 6 (200 ∷ []))
      ∷ refuses (over (200 ∷ 201 ∷ []) (access writing 0xf5c0000002000004 0 no_shift)) 8 0 4 6 0
      ∷ grants (over (zeros 1) (access fetching 0x325980040000000f 0 no_shift)) [] 0 4 6 0 (fetch 23 1)
      ∷ grants (plain (clone 0xf5c0000002000000)) [] 0 4 6 0 nothing
      -- a lock through the grandchild, again, by another; drops under it
      ∷ grants (plain (lock 0x5cc2000000000003 7)) [] 0 4 6 0 nothing
      ∷ grants (plain (lock 0xafb3c00000010000 7)) [] 0 4 6 0 nothing
      ∷ refuses (plain (lock 0xf5c0000002000000 8)) 5 0 4 6 0
      ∷ refuses (over (zeros 1) (access reading 0x5cc2000000000003 0 no_shift)) 5 0 4 6 0
      ∷ grants (over (zeros 2) (access reading 0x5cc2000000000003 7 no_shift)) [] 0 4 6 0 (fetch 3 2)
      ∷ grants (plain (release 0x5cc2000000000003)) [] 0 4 6 0 nothing
      ∷ grants (plain (release 0xf5c0000002000000)) [] 0 4 6 0 nothing
      ∷ refuses (plain (unlock 0x5cc2000000000003 8)) 5 0 4 6 0
      ∷ grants (plain (unlock 0x5cc2000000000003 7)) [] 0 4 6 0 nothing
      ∷ refuses (plain (unlock 0xafb3c00000010000 7)) 9 0 4 6 0
      -- a drop that climbs; a merge once nothing is counted
      ∷ grants (plain (release 0xf5c0000002000000)) [] 0 4 6 0 nothing
      ∷ grants (plain (release 0x5cc2000000000003)) [] 1 4 6 2 nothing
      ∷ refuses (plain (merge 0xafb3c00000010000 0x898ac00000000000 0 3)) 9 0 4 6 2
      ∷ grants (plain (release 0x3259800400000000)) [] 1 4 6 3 nothing
      ∷ refuses (plain (release 0x898ac00000000000)) 9 0 4 6 3
      ∷ grants (plain (merge 0xafb3c00000010000 0x898ac00000000000 0 3)) (0xc14a800001000000 ∷ []) 0 4 7 3 nothing
      ∷ refuses (over (zeros 1) (access reading 0xafb3c00000010000 0 no_shift)) 2 0 4 7 3
      -- a revoke
      ∷ grants (plain (revoke 0xc14a800001000000 1)) (0x7bcf000000000001 ∷ []) 0 4 8 3 (store 0 (zeros 24))
      ∷ grants (over (zeros 24) (access reading 0x7bcf000000000001 0 no_shift)) [] 0 4 8 3 (fetch 0 24)
      ∷ refuses (over (zeros 1) (access reading 0 0 no_shift)) 2 0 4 8 3
      ∷ [];
  left =
      0x262b00000000
      ∷ 0x200000000000000300000000000000000000000000000000003aef3c00000007
      ∷ 0xd70000000000
      ∷ 0x730800000000
      ∷ 0xc96600000000
      ∷ [];
}

-- leases (02, paper 4): windows of number 0 with tag 160, by day and over the week's end; others' leases; and leases that are unsound
abbrev day : List ℕ
day = 0 ∷ 0 ∷ 160 ∷ 0 ∷ 224 ∷ 1 ∷ 192 ∷ 3 ∷ []

abbrev night : List ℕ
night = 0 ∷ 0 ∷ 160 ∷ 0 ∷ 192 ∷ 3 ∷ 224 ∷ 1 ∷ []

abbrev twice : List ℕ
twice = 0 ∷ 0 ∷ 160 ∷ 0 ∷ 224 ∷ 1 ∷ 192 ∷ 3 ∷ 0 ∷ 0 ∷ 160 ∷ 0 ∷ 232 ∷ 3 ∷ 76 ∷ 4 ∷ []

abbrev others : List ℕ
others = 0 ∷ 0 ∷ 161 ∷ 0 ∷ 224 ∷ 1 ∷ 192 ∷ 3 ∷ 1 ∷ 0 ∷ 160 ∷ 0 ∷ 224 ∷ 1 ∷ 192 ∷ 3 ∷ []

abbrev locked : List ℕ
locked = 1 ∷ 0 ∷ 161 ∷ 0 ∷ 224 ∷ 1 ∷ 192 ∷ 3 ∷ []

abbrev unread : List ℕ
unread = 3 ∷ 0 ∷ 163 ∷ 0 ∷ 224 ∷ 1 ∷ 192 ∷ 3 ∷ []

abbrev broken : List ℕ
broken = 5 ∷ 0 ∷ 165 ∷ 0 ∷ 224 ∷ 1 ∷ 192 ∷ 3 ∷ 7 ∷ 0 ∷ 167 ∷ 0 ∷ 224 ∷ 1 ∷ 192 ∷ 3 ∷ []

abbrev equal : List ℕ
equal = 9 ∷ 0 ∷ 9 ∷ 0 ∷ 7 ∷ 0 ∷ 7 ∷ 0 ∷ []

abbrev opens_late : List ℕ
opens_late = 0 ∷ 0 ∷ 160 ∷ 0 ∷ 224 ∷ 1 ∷ 192 ∷ 3 ∷ 9 ∷ 0 ∷ 9 ∷ 0 ∷ 96 ∷ 39 ∷ 0 ∷ 0 ∷ []

abbrev closes_late : List ℕ
closes_late = 9 ∷ 0 ∷ 9 ∷ 0 ∷ 0 ∷ 0 ∷ 96 ∷ 39 ∷ 0 ∷ 0 ∷ 160 ∷ 0 ∷ 224 ∷ 1 ∷ 192 ∷ 3 ∷ []

abbrev last_minute : List ℕ
last_minute = 0 ∷ 0 ∷ 160 ∷ 0 ∷ 95 ∷ 39 ∷ 0 ∷ 0 ∷ []

-- a table that was handed over: each refusal of each operation but 10 and 11, and the edges of what is granted
abbrev handed_over : Session
handed_over = record {
  memory = 64;
  state = known 1 2 14 100 15;
  table = handed;
  rows =
      -- access
      refuses (over (zeros 1) (access reading 0x4028000000000000 36028797018963968 no_shift)) 1 0 14 100 15
      ∷ refuses (over [] (access reading 0x4028000000000000 0 no_shift)) 1 0 14 100 15
      ∷ refuses (over (zeros 1) (access reading 0x1000000000 0 no_shift)) 2 0 14 100 15
      ∷ refuses (over (zeros 1) (access reading 0xf00000000 0 no_shift)) 2 0 14 100 15
      ∷ refuses (over (zeros 1) (access reading 0x8028400000000000 0 no_shift)) 2 0 14 100 15
      ∷ refuses (over (zeros 1) (access reading 0x4029400000000005 0 no_shift)) 3 1 14 100 15
      ∷ refuses (over (200 ∷ []) (access writing 0x29800600000000 0 no_shift)) 3 2 14 100 15
      ∷ refuses (over (zeros 1) (access reading 0x402ac0000000000b 0 no_shift)) 3 1 14 100 15
      ∷ refuses (over (zeros 1) (access reading 0x4029c00000000007 0 no_shift)) 4 1 14 100 15
      ∷ refuses (over (200 ∷ []) (access writing 0x402a000000000008 0 no_shift)) 4 2 14 100 15
      ∷ refuses (over (zeros 1) (access fetching 0x402a80000000000a 0 no_shift)) 4 1 14 100 15
      ∷ refuses (over (zeros 1) (access reading 0x4028400000000001 8 no_shift)) 5 0 14 100 15
      ∷ refuses (over (zeros 1) (access reading 0x4028800000000002 0 no_shift)) 5 0 14 100 15
      ∷ refuses (over (200 ∷ 201 ∷ 202 ∷ 203 ∷ 204 ∷ 205 ∷ 206 ∷ 207 ∷ 208 ∷ []) (access writing 0x4028800000000002 7 no_shift)) 7 0 14 100 15
      ∷ refuses (over (zeros 1) (access reading 0x4028c00000000003 0 no_shift)) 7 0 14 100 15
      ∷ refuses (over (zeros 1) (access fetching 0x4029000000000004 0 no_shift)) 7 0 14 100 15
      ∷ refuses (over (zeros 1) (access reading 0x402a400000000009 0 no_shift)) 7 0 14 100 15
      ∷ refuses (over (zeros 1) (access reading 0x28000000000010 0 no_shift)) 8 0 14 100 15
      ∷ refuses (over (zeros 2) (access reading 0x2800000000000f 0 no_shift)) 8 0 14 100 15
      ∷ grants (over (zeros 1) (access reading 0x2800000000000f 36028797018963967 no_shift)) [] 0 14 100 15 (fetch 15 1)
      -- in a shift: before a window and at its opening, and an unsound lease
      ∷ refuses (over (zeros 1) (access reading 0x4028000000000000 0 (during 479 day))) 15 0 14 100 15
      ∷ grants (over (zeros 1) (access reading 0x4028000000000000 0 (during 480 day))) [] 0 14 100 15 (fetch 0 1)
      ∷ refuses (over (zeros 1) (access reading 0x4028000000000000 0 (during 480 equal))) 16 0 14 100 15
      -- load and dump
      ∷ refuses (over ended (load 0xf00000000 0 no_shift)) 2 0 14 100 15
      ∷ refuses (over ended (load 0x4029400000000005 0 no_shift)) 3 1 14 100 15
      ∷ refuses (over ended (load 0x29800600000000 0 no_shift)) 3 2 14 100 15
      ∷ refuses (over ended (load 0x4029c00000000007 0 no_shift)) 4 1 14 100 15
      ∷ refuses (over ended (load 0x402a000000000008 0 no_shift)) 4 2 14 100 15
      ∷ refuses (over ended (load 0x4028800000000002 0 no_shift)) 5 0 14 100 15
      ∷ refuses (over ended (load 0x402a400000000009 0 no_shift)) 7 0 14 100 15
      ∷ refuses (over (zeros 56) (dump 0xf00000000 0 no_shift)) 2 0 14 100 15
      ∷ refuses (over (zeros 56) (dump 0x4029400000000005 0 no_shift)) 3 1 14 100 15
      ∷ refuses (over (zeros 56) (dump 0x29800600000000 0 no_shift)) 3 2 14 100 15
      ∷ refuses (over (zeros 56) (dump 0x4029c00000000007 0 no_shift)) 4 1 14 100 15
      ∷ refuses (over (zeros 56) (dump 0x402a000000000008 0 no_shift)) 4 2 14 100 15
      ∷ refuses (over (zeros 56) (dump 0x4028800000000002 0 no_shift)) 5 0 14 100 15
      ∷ refuses (over (zeros 56) (dump 0x4028c00000000003 0 no_shift)) 7 0 14 100 15
      ∷ dumps (over (zeros 72) (dump 0x28000000000000 36028797018963967 no_shift)) 72 14 100 15 (text 0 16)
      ∷ grants (over ended (load 0x28000000000000 36028797018963967 no_shift)) [] 0 14 100 15 nothing
      -- create
      ∷ refuses (plain (create 0x4028000000000000 36028797018963968 1 0 0 0)) 1 0 14 100 15
      ∷ refuses (plain (create 0x4028000000000000 0 1 0 0 4)) 1 0 14 100 15
      ∷ refuses (plain (create 0x4028000000000000 0 1 0 8 0)) 1 0 14 100 15
      ∷ refuses (plain (create 0x4028000000000000 0 0 0 0 0)) 1 0 14 100 15
      ∷ refuses (plain (create 0x28000000000001 0 1 0 0 0)) 1 0 14 100 15
      ∷ refuses (plain (create 0x402bc0000000000f 0 1 0 0 0)) 2 0 14 100 15
      ∷ refuses (plain (create 0x4029400000000005 0 1 0 0 0)) 3 1 14 100 15
      ∷ refuses (plain (create 0x402a000000000008 0 1 0 0 0)) 4 2 14 100 15
      ∷ refuses (plain (create 0x4028400000000001 8 1 0 0 0)) 5 0 14 100 15
      ∷ refuses (plain (create 0x4028800000000002 7 1 0 7 0)) 6 0 14 100 15
      ∷ refuses (plain (create 0x4028c00000000003 0 9 0 4 0)) 7 0 14 100 15
      ∷ refuses (plain (create 0x4028000000000000 0 17 0 7 0)) 8 0 14 100 15
      ∷ refuses (plain (create 0x4028400000000001 7 1 0 7 0)) 9 0 14 100 15
      ∷ refuses (plain (create 0x402b80000000000e 0 1 0 7 0)) 9 0 14 100 15
      -- merge
      ∷ refuses (plain (merge 0x4028c00000000003 0x4029000000000004 36028797018963968 0)) 1 0 14 100 15
      ∷ refuses (plain (merge 0x4028c00000000003 0x4029000000000004 0 4)) 1 0 14 100 15
      ∷ refuses (plain (merge 0x28c00300000001 0x4029000000000004 0 0)) 1 0 14 100 15
      ∷ refuses (plain (merge 0x4028c00000000003 0x29000400000001 0 0)) 1 0 14 100 15
      ∷ refuses (plain (merge 0x402bc0000000000f 0x4029400000000005 0 0)) 2 0 14 100 15
      ∷ refuses (plain (merge 0x4028c00000000003 0x402bc0000000000f 0 0)) 2 0 14 100 15
      ∷ refuses (plain (merge 0x4029400000000005 0x402bc0000000000f 0 0)) 3 1 14 100 15
      ∷ refuses (plain (merge 0x4028c00000000003 0x4029800000000006 0 0)) 3 2 14 100 15
      ∷ refuses (plain (merge 0x4029c00000000007 0x402bc0000000000f 0 0)) 4 1 14 100 15
      ∷ refuses (plain (merge 0x4028c00000000003 0x402a000000000008 0 0)) 4 2 14 100 15
      ∷ refuses (plain (merge 0x4028400000000001 0x402bc0000000000f 8 0)) 5 0 14 100 15
      ∷ refuses (plain (merge 0x4028000000000000 0x4028400000000001 8 0)) 5 0 14 100 15
      ∷ refuses (plain (merge 0x402b00000000000c 0x4029000000000004 0 0)) 6 0 14 100 15
      ∷ refuses (plain (merge 0x4028c00000000003 0x402b00000000000c 0 0)) 6 0 14 100 15
      ∷ refuses (plain (merge 0x4029000000000004 0x4028c00000000003 0 0)) 8 0 14 100 15
      ∷ refuses (plain (merge 0x4029000000000004 0x4029000000000004 0 0)) 8 0 14 100 15
      ∷ refuses (plain (merge 0x4028000000000000 0x4028400000000001 7 0)) 9 0 14 100 15
      ∷ refuses (plain (merge 0x4028400000000001 0x4028c00000000003 7 0)) 9 0 14 100 15
      ∷ refuses (plain (merge 0x4029000000000004 0x402b80000000000e 0 0)) 9 0 14 100 15
      ∷ refuses (plain (merge 0x402b80000000000e 0x402b40000000000d 0 0)) 9 0 14 100 15
      -- derive
      ∷ refuses (plain (derive 0x4028000000000000 0 1 0 4)) 1 0 14 100 15
      ∷ refuses (plain (derive 0x4028000000000000 0 1 8 0)) 1 0 14 100 15
      ∷ refuses (plain (derive 0x4028000000000000 0 0 0 0)) 1 0 14 100 15
      ∷ refuses (plain (derive 0x28000000000001 0 1 0 0)) 1 0 14 100 15
      ∷ refuses (plain (derive 0x402bc0000000000f 0 1 0 0)) 2 0 14 100 15
      ∷ refuses (plain (derive 0x4029800000000006 0 1 0 0)) 3 2 14 100 15
      ∷ refuses (plain (derive 0x4029c00000000007 0 1 0 0)) 4 1 14 100 15
      ∷ refuses (plain (derive 0x4028800000000002 0 9 2 0)) 7 0 14 100 15
      ∷ refuses (plain (derive 0x4028000000000000 1 16 7 0)) 8 0 14 100 15
      -- execute-only
      ∷ refuses (plain (execute_only 0x4028000000000000 4)) 1 0 14 100 15
      ∷ refuses (plain (execute_only 0x28000000000001 0)) 1 0 14 100 15
      ∷ refuses (plain (execute_only 0x402bc0000000000f 0)) 2 0 14 100 15
      ∷ refuses (plain (execute_only 0x402ac0000000000b 0)) 3 1 14 100 15
      ∷ refuses (plain (execute_only 0x402a000000000008 0)) 4 2 14 100 15
      ∷ refuses (plain (execute_only 0x4029000000000004 0)) 7 0 14 100 15
      -- clone
      ∷ refuses (plain (clone 0x28000000000001)) 1 0 14 100 15
      ∷ refuses (plain (clone 0x402bc0000000000f)) 2 0 14 100 15
      ∷ refuses (plain (clone 0x4029400000000005)) 3 1 14 100 15
      ∷ refuses (plain (clone 0x402a000000000008)) 4 2 14 100 15
      -- counts at their top
      ∷ grants (plain (clone 0x402a400000000009)) [] 0 14 100 15 nothing
      ∷ refuses (plain (clone 0x402a400000000009)) 9 0 14 100 15
      ∷ refuses (plain (derive 0x402a400000000009 0 7 1 0)) 9 0 14 100 15
      ∷ refuses (plain (execute_only 0x402a400000000009 0)) 9 0 14 100 15
      -- drop
      ∷ refuses (plain (release 0x28000000000001)) 1 0 14 100 15
      ∷ refuses (plain (release 0x402bc0000000000f)) 2 0 14 100 15
      ∷ refuses (plain (release 0x4029800000000006)) 3 2 14 100 15
      ∷ refuses (plain (release 0x4029400000000005)) 3 1 14 100 15
      ∷ refuses (plain (release 0x4028000000000000)) 9 0 14 100 15
      ∷ grants (plain (release 0x402a400000000009)) [] 0 14 100 15 nothing
      -- lock
      ∷ refuses (plain (lock 0x4028000000000000 0)) 1 0 14 100 15
      ∷ refuses (plain (lock 0x4028000000000000 36028797018963968)) 1 0 14 100 15
      ∷ refuses (plain (lock 0x28000000000001 1)) 1 0 14 100 15
      ∷ refuses (plain (lock 0x402bc0000000000f 1)) 2 0 14 100 15
      ∷ refuses (plain (lock 0x4029800000000006 1)) 3 2 14 100 15
      ∷ refuses (plain (lock 0x4029c00000000007 1)) 4 1 14 100 15
      ∷ refuses (plain (lock 0x4028800000000002 8)) 5 0 14 100 15
      ∷ refuses (plain (lock 0x4028c00000000003 1)) 7 0 14 100 15
      ∷ refuses (plain (lock 0x402a400000000009 1)) 7 0 14 100 15
      -- unlock
      ∷ refuses (plain (unlock 0x4028400000000001 0)) 1 0 14 100 15
      ∷ refuses (plain (unlock 0x4028400000000001 36028797018963968)) 1 0 14 100 15
      ∷ refuses (plain (unlock 0x28400100000001 7)) 1 0 14 100 15
      ∷ refuses (plain (unlock 0x402bc0000000000f 1)) 2 0 14 100 15
      ∷ refuses (plain (unlock 0x4029400000000005 1)) 3 1 14 100 15
      ∷ refuses (plain (unlock 0x402a000000000008 1)) 4 2 14 100 15
      ∷ refuses (plain (unlock 0x4028400000000001 8)) 5 0 14 100 15
      ∷ refuses (plain (unlock 0x4028000000000000 1)) 9 0 14 100 15
      ∷ refuses (plain (unlock 0x402b00000000000c 1)) 9 0 14 100 15
      -- revoke
      ∷ refuses (plain (revoke 0x4028000000000000 4)) 1 0 14 100 15
      ∷ refuses (plain (revoke 0x28000000000001 0)) 1 0 14 100 15
      ∷ refuses (plain (revoke 0x402bc0000000000f 0)) 2 0 14 100 15
      ∷ refuses (plain (revoke 0x4029800000000006 0)) 3 2 14 100 15
      ∷ refuses (plain (revoke 0x402a000000000008 0)) 4 2 14 100 15
      ∷ refuses (plain (revoke 0x402b00000000000c 0)) 6 0 14 100 15
      ∷ [];
  left = handed;
}

-- the same table: what is granted there, with entries that no reset leaves
abbrev handed_on : Session
handed_on = record {
  memory = 64;
  state = known 1 2 14 100 13;
  table = handed;
  rows =
      -- drops: a climb to a dead entry, a dead entry, one with no older parent, a climb that meets 0; under a lock and after it
      grants (plain (release 0x402a000000000008)) [] 1 14 100 14 nothing
      ∷ grants (plain (release 0x4029c00000000007)) [] 1 14 100 15 nothing
      ∷ grants (plain (release 0x402a80000000000a)) [] 1 14 100 15 nothing
      ∷ grants (plain (release 0x402b00000000000c)) [] 1 14 100 15 nothing
      ∷ grants (plain (release 0x4028800000000002)) [] 0 14 100 15 nothing
      ∷ grants (plain (lock 0x402b40000000000d 36028797018963967)) [] 0 14 100 15 nothing
      ∷ grants (plain (unlock 0x4028800000000002 7)) [] 0 14 100 15 nothing
      ∷ grants (plain (release 0x4028800000000002)) [] 1 14 100 15 nothing
      ∷ grants (plain (release 0x402b80000000000e)) [] 1 14 100 15 nothing
      -- at 65,534; user and Lockable of part, rest and merged; a revoke makes Lockable, and unlocks
      ∷ grants (plain (execute_only 0x402a400000000009 1)) (0x490300000000000f ∷ []) 0 15 101 14 nothing
      ∷ grants (plain (create 0x4028c00000000003 0 3 18446744073709551615 1 1)) (0x7300400000000002 ∷ 0x4839400000000003 ∷ []) 0 2 103 13 nothing
      ∷ grants (plain (merge 0x4839400000000003 0x4029000000000004 0 2)) (0xb187000000030000 ∷ []) 0 2 104 14 nothing
      ∷ grants (over (200 ∷ []) (access writing 0xb18700000003000c 0 no_shift)) [] 0 2 104 14 (store 47 (200 ∷ []))
      ∷ refuses (plain (lock 0xb187000000030000 1)) 7 0 2 104 14
      ∷ grants (plain (revoke 0x4028400000000001 0)) (0x3269000100000000 ∷ []) 0 2 105 14 (store 16 (zeros 16))
      ∷ [];
  left =
      0x200000000000000200000000000000000000000000000000017a00a00000000a
      ∷ 0x200000020000000200000000000000000000000000000000003ac9a400000068
      ∷ 0x20000004000000006000000000000000003fffffffffffffffc8cc0100000065
      ∷ 0x2000000460000001a00000000000000000000000000000000190c61c00000067
      ∷ 0xa400000000
      ∷ 0x200000000000000000002000000000000000000000000000003a00a50000000e
      ∷ 0x400000000805280000000000a00000008000200000000000003800a60000001e
      ∷ 0xa700000000
      ∷ 0xa800000000
      ∷ 0x400000040805180000000000600000011fffe00000000000000800a900000021
      ∷ 0xaa00000000
      ∷ 0x800000000000000000000000000000000000000000000000000000ab00000000
      ∷ 0xac00000000
      ∷ 0x200000070000000100001fffffffffffffc0000000000000003e00ad00000010
      ∷ 0x200000060000000100000000000000000000000000000000003a00ae00000011
      ∷ 0x4000000408054800000000012000000100002000000000000008240c00000064
      ∷ [];
}

-- a new number: round from the table's end to 1, never 0, the last one given at the end of the round; and a child up to its parent's end
abbrev going_round : Session
going_round = record {
  memory = 8;
  state = known 3 4 2 9 1;
  table =
      0
      ∷ 0x200000000000000100002000000000000000000000000000003a00a100000007
      ∷ 0x400000000805080000000000200000008000200000000000003800a200000008
      ∷ [];
  rows =
      refuses (plain (derive 0x4028400000000001 0 2 7 0)) 10 0 2 9 1
      ∷ refuses (plain (execute_only 0x4028400000000001 0)) 10 0 2 9 1
      ∷ grants (plain (release 0x4028800000000002)) [] 1 2 9 2 nothing
      ∷ grants (plain (derive 0x4028400000000001 3 5 7 0)) (0x0591c00200000000 ∷ []) 0 2 10 1 nothing
      ∷ [];
  left =
      0
      ∷ 0x200000000000000100002000000000000000000000000000003a00a100000007
      ∷ 0x40000000680508000000000020000000a0002000000000000038164700000009
      ∷ [];
}

-- the last nonces: two are too many, one is left, none is left
abbrev last_nonces : Session
last_nonces = record {
  memory = 16;
  state = known 5 6 0 4294967295 0;
  table =
      0x200000000000000100000000000000000000000000000000003a00a000000008
      ∷ 0x200000010000000100000000000000000000000000000000003a00a100000007
      ∷ 0
      ∷ 0
      ∷ [];
  rows =
      refuses (plain (create 0x4028000000000000 0 4 0 7 0)) 11 0 0 4294967295 0
      ∷ grants (plain (create 0x4028400000000001 0 8 0 7 0)) (0x28b4400200000000 ∷ []) 0 2 4294967296 1 nothing
      ∷ refuses (plain (create 0x4028000000000000 0 8 0 7 0)) 11 0 2 4294967296 1
      ∷ refuses (plain (merge 0x4028000000000000 0x28b4400200000000 0 0)) 11 0 2 4294967296 1
      ∷ refuses (plain (derive 0x28b4400200000000 0 7 7 0)) 11 0 2 4294967296 1
      ∷ refuses (plain (execute_only 0x28b4400200000000 0)) 11 0 2 4294967296 1
      ∷ refuses (plain (revoke 0x28b4400200000000 0)) 11 0 2 4294967296 1
      ∷ grants (plain (clone 0x28b4400200000000)) [] 0 2 4294967296 1 nothing
      ∷ grants (plain (lock 0x28b4400200000000 1)) [] 0 2 4294967296 1 nothing
      ∷ grants (over (200 ∷ 201 ∷ 202 ∷ 203 ∷ 204 ∷ 205 ∷ 206 ∷ 207 ∷ []) (access writing 0x28b4400200000000 1 no_shift)) [] 0 2 4294967296 1 (store 8 (200 ∷ 201 ∷ 202 ∷ 203 ∷ 204 ∷ 205 ∷ 206 ∷ 207 ∷ []))
      ∷ grants (plain (unlock 0x28b4400200000000 1)) [] 0 2 4294967296 1 nothing
      ∷ grants (plain (release 0x28b4400200000000)) [] 1 2 4294967296 1 nothing
      ∷ grants (plain (reset 1 1 4294967295)) [] 0 0 4294967295 3 nothing
      ∷ [];
  left =
      0x200000000000000200000000000000000000000000000000003a000000000000
      ∷ 0
      ∷ 0
      ∷ 0
      ∷ [];
}

-- creates of the whole, under a total at its top: a freed number counts again, number 0 does not
abbrev wholes : Session
wholes = record {
  memory = 16;
  state = known 5 6 0 9 3;
  table =
      0x200000000000000100000000000000000000000000000000003a00a000000008
      ∷ 0x200000010000000100000000000000000000000000000000003a00a100000007
      ∷ 0
      ∷ 0
      ∷ [];
  rows =
      grants (plain (create 0x4028400000000001 0 8 0 7 0)) (0x1c32000200000000 ∷ []) 0 2 10 3 nothing
      ∷ grants (plain (create 0x4028000000000000 0 8 0 7 0)) (0x32f3000300000000 ∷ []) 0 3 11 2 nothing
      ∷ [];
  left =
      0xa000000000
      ∷ 0xa100000000
      ∷ 0x200000010000000100000000000000000000000000000000003a70c800000009
      ∷ 0x200000000000000100000000000000000000000000000000003acbcc0000000a
      ∷ [];
}

-- a full table: no create; the last nonce would bring the old tag back, and is passed over: no revoke
abbrev none_left : Session
none_left = record {
  memory = 8;
  state = known 0 0 0 4294967295 1;
  table =
      0x200000000000000100000000000000000000000000000000003a000000000001
      ∷ 0x200000008000000080000000000000000000000000000000003a67e600000002
      ∷ [];
  rows =
      refuses (plain (create 0 0 8 0 7 0)) 10 0 0 4294967295 1
      ∷ refuses (plain (revoke 0x19f9800100000000 0)) 11 0 0 4294967295 1
      ∷ [];
  left =
      0x200000000000000100000000000000000000000000000000003a000000000001
      ∷ 0x200000008000000080000000000000000000000000000000003a67e600000002
      ∷ [];
}

-- loads and dumps of 20 bytes (02, paper 2)
abbrev imaged : Session
imaged = record {
  memory = 20;
  state = known 0 0 0 0 0;
  table = 0 ∷ 0 ∷ [];
  rows =
      grants (plain (reset 0 0 1)) [] 0 0 1 1 nothing
      -- three bytes at 2; an end record alone
      ∷ grants (over (58 ∷ 48 ∷ 51 ∷ 48 ∷ 48 ∷ 48 ∷ 50 ∷ 48 ∷ 48 ∷ 67 ∷ 57 ∷ 67 ∷ 65 ∷ 67 ∷ 66 ∷ 57 ∷ 68 ∷ 10 ∷ 58 ∷ 48 ∷ 48 ∷ 48 ∷ 48 ∷ 48 ∷ 48 ∷ 48 ∷ 49 ∷ 70 ∷ 70 ∷ 10 ∷ []) (load 0 0 no_shift)) [] 0 0 1 1 (store 2 (201 ∷ 202 ∷ 203 ∷ []))
      ∷ grants (over (58 ∷ 48 ∷ 48 ∷ 48 ∷ 48 ∷ 48 ∷ 48 ∷ 48 ∷ 49 ∷ 70 ∷ 70 ∷ 10 ∷ []) (load 0 0 no_shift)) [] 0 0 1 1 nothing
      -- no text; no end record; two; CR LF
      ∷ refuses (over [] (load 0 0 no_shift)) 12 0 0 1 1
      ∷ refuses (over (58 ∷ 48 ∷ 49 ∷ 48 ∷ 48 ∷ 48 ∷ 50 ∷ 48 ∷ 48 ∷ 67 ∷ 57 ∷ 51 ∷ 52 ∷ 10 ∷ []) (load 0 0 no_shift)) 12 0 0 1 1
      ∷ refuses (over (58 ∷ 48 ∷ 48 ∷ 48 ∷ 48 ∷ 48 ∷ 48 ∷ 48 ∷ 49 ∷ 70 ∷ 70 ∷ 10 ∷ 58 ∷ 48 ∷ 48 ∷ 48 ∷ 48 ∷ 48 ∷ 48 ∷ 48 ∷ 49 ∷ 70 ∷ 70 ∷ 10 ∷ []) (load 0 0 no_shift)) 12 0 0 1 1
      ∷ refuses (over (58 ∷ 48 ∷ 48 ∷ 48 ∷ 48 ∷ 48 ∷ 48 ∷ 48 ∷ 49 ∷ 70 ∷ 70 ∷ 13 ∷ 10 ∷ []) (load 0 0 no_shift)) 12 0 0 1 1
      -- a wrong checksum, before and after a malformed record
      ∷ refuses (over (58 ∷ 48 ∷ 49 ∷ 48 ∷ 48 ∷ 48 ∷ 50 ∷ 48 ∷ 48 ∷ 67 ∷ 57 ∷ 51 ∷ 53 ∷ 10 ∷ 58 ∷ 48 ∷ 48 ∷ 48 ∷ 48 ∷ 48 ∷ 48 ∷ 48 ∷ 49 ∷ 70 ∷ 70 ∷ 10 ∷ []) (load 0 0 no_shift)) 13 0 0 1 1
      ∷ refuses (over (58 ∷ 48 ∷ 49 ∷ 48 ∷ 48 ∷ 48 ∷ 50 ∷ 48 ∷ 48 ∷ 67 ∷ 57 ∷ 51 ∷ 53 ∷ 10 ∷ 10 ∷ []) (load 0 0 no_shift)) 13 0 0 1 1
      ∷ refuses (over (10 ∷ 58 ∷ 48 ∷ 49 ∷ 48 ∷ 48 ∷ 48 ∷ 50 ∷ 48 ∷ 48 ∷ 67 ∷ 57 ∷ 51 ∷ 53 ∷ 10 ∷ []) (load 0 0 no_shift)) 12 0 0 1 1
      -- past the segment's end, by one byte and by a page; no byte there
      ∷ refuses (over (58 ∷ 48 ∷ 51 ∷ 48 ∷ 48 ∷ 49 ∷ 50 ∷ 48 ∷ 48 ∷ 48 ∷ 49 ∷ 48 ∷ 50 ∷ 48 ∷ 51 ∷ 69 ∷ 53 ∷ 10 ∷ 58 ∷ 48 ∷ 48 ∷ 48 ∷ 48 ∷ 48 ∷ 48 ∷ 48 ∷ 49 ∷ 70 ∷ 70 ∷ 10 ∷ []) (load 0 0 no_shift)) 8 0 0 1 1
      ∷ refuses (over (58 ∷ 48 ∷ 50 ∷ 48 ∷ 48 ∷ 48 ∷ 48 ∷ 48 ∷ 52 ∷ 48 ∷ 48 ∷ 48 ∷ 49 ∷ 70 ∷ 57 ∷ 10 ∷ 58 ∷ 48 ∷ 49 ∷ 48 ∷ 48 ∷ 48 ∷ 48 ∷ 48 ∷ 48 ∷ 48 ∷ 49 ∷ 70 ∷ 69 ∷ 10 ∷ 58 ∷ 48 ∷ 48 ∷ 48 ∷ 48 ∷ 48 ∷ 48 ∷ 48 ∷ 49 ∷ 70 ∷ 70 ∷ 10 ∷ []) (load 0 0 no_shift)) 8 0 0 1 1
      ∷ grants (over (58 ∷ 48 ∷ 50 ∷ 48 ∷ 48 ∷ 48 ∷ 48 ∷ 48 ∷ 52 ∷ 48 ∷ 48 ∷ 48 ∷ 49 ∷ 70 ∷ 57 ∷ 10 ∷ 58 ∷ 48 ∷ 48 ∷ 48 ∷ 48 ∷ 48 ∷ 57 ∷ 48 ∷ 48 ∷ 70 ∷ 55 ∷ 10 ∷ 58 ∷ 48 ∷ 48 ∷ 48 ∷ 48 ∷ 48 ∷ 48 ∷ 48 ∷ 49 ∷ 70 ∷ 70 ∷ 10 ∷ []) (load 0 0 no_shift)) [] 0 0 1 1 nothing
      -- an offset; a bad text, and a good one, through a token that names nothing
      ∷ refuses (over (58 ∷ 48 ∷ 51 ∷ 48 ∷ 48 ∷ 48 ∷ 50 ∷ 48 ∷ 48 ∷ 67 ∷ 57 ∷ 67 ∷ 65 ∷ 67 ∷ 66 ∷ 57 ∷ 68 ∷ 10 ∷ 58 ∷ 48 ∷ 48 ∷ 48 ∷ 48 ∷ 48 ∷ 48 ∷ 48 ∷ 49 ∷ 70 ∷ 70 ∷ 10 ∷ []) (load 1 0 no_shift)) 1 0 0 1 1
      ∷ refuses (over [] (load 1 0 no_shift)) 1 0 0 1 1
      ∷ refuses (over [] (load 1099511627776 0 no_shift)) 12 0 0 1 1
      ∷ refuses (over (58 ∷ 48 ∷ 51 ∷ 48 ∷ 48 ∷ 48 ∷ 50 ∷ 48 ∷ 48 ∷ 67 ∷ 57 ∷ 67 ∷ 65 ∷ 67 ∷ 66 ∷ 57 ∷ 68 ∷ 10 ∷ 58 ∷ 48 ∷ 48 ∷ 48 ∷ 48 ∷ 48 ∷ 48 ∷ 48 ∷ 49 ∷ 70 ∷ 70 ∷ 10 ∷ []) (load 1099511627776 0 no_shift)) 2 0 0 1 1
      -- the text of 20 bytes; a buffer that lacks one; an offset
      ∷ dumps (over (zeros 92) (dump 0 0 no_shift)) 92 0 1 1 (text 0 20)
      ∷ refuses (over (zeros 91) (dump 0 0 no_shift)) 14 0 0 1 1
      ∷ refuses (over (zeros 92) (dump 1 0 no_shift)) 1 0 0 1 1
      -- under a lock
      ∷ grants (plain (lock 0 7)) [] 0 0 1 1 nothing
      ∷ refuses (over (58 ∷ 48 ∷ 51 ∷ 48 ∷ 48 ∷ 48 ∷ 50 ∷ 48 ∷ 48 ∷ 67 ∷ 57 ∷ 67 ∷ 65 ∷ 67 ∷ 66 ∷ 57 ∷ 68 ∷ 10 ∷ 58 ∷ 48 ∷ 48 ∷ 48 ∷ 48 ∷ 48 ∷ 48 ∷ 48 ∷ 49 ∷ 70 ∷ 70 ∷ 10 ∷ []) (load 0 8 no_shift)) 5 0 0 1 1
      ∷ refuses (over (zeros 92) (dump 0 0 no_shift)) 5 0 0 1 1
      ∷ grants (over (58 ∷ 48 ∷ 51 ∷ 48 ∷ 48 ∷ 48 ∷ 50 ∷ 48 ∷ 48 ∷ 67 ∷ 57 ∷ 67 ∷ 65 ∷ 67 ∷ 66 ∷ 57 ∷ 68 ∷ 10 ∷ 58 ∷ 48 ∷ 48 ∷ 48 ∷ 48 ∷ 48 ∷ 48 ∷ 48 ∷ 49 ∷ 70 ∷ 70 ∷ 10 ∷ []) (load 0 7 no_shift)) [] 0 0 1 1 (store 2 (201 ∷ 202 ∷ 203 ∷ []))
      ∷ dumps (over (zeros 93) (dump 0 7 no_shift)) 92 0 1 1 (text 0 20)
      ∷ [];
  left = 0x2000000000000002800000000000000001c0000000000000003e000000000000 ∷ 0 ∷ [];
}

-- sizes and settings at their limits, over a table of zeros: 2 tells that place 1 was passed
abbrev pub limits : List Row
limits =
    limit 0 64 0 0 0 (plain (reset 0 0 1)) 1
    ∷ limit 1 64 0 0 0 (plain (reset 0 0 1)) 0
    ∷ limit 16777216 64 0 0 0 (plain (reset 0 0 1)) 0
    ∷ limit 16777217 64 0 0 0 (plain (reset 0 0 1)) 1
    ∷ limit 8 32 0 0 0 (plain (reset 0 0 1)) 1
    ∷ limit 8 64 0 0 0 (plain (reset 0 0 1)) 0
    ∷ limit 8 65 0 0 0 (plain (reset 0 0 1)) 1
    ∷ limit 8 64 0 0 0 (plain (reset 0 0 0)) 1
    ∷ limit 8 64 0 0 0 (plain (reset 0 0 1)) 0
    ∷ limit 8 64 0 0 0 (plain (reset 0 0 4294967295)) 0
    ∷ limit 8 64 0 0 0 (plain (reset 0 0 4294967296)) 1
    ∷ limit 8 64 1 1 0 (plain (clone 0)) 2
    ∷ limit 8 64 2 1 0 (plain (clone 0)) 1
    ∷ limit 8 64 0 0 0 (plain (clone 0)) 1
    ∷ limit 8 64 0 4294967296 0 (plain (clone 0)) 2
    ∷ limit 8 64 0 4294967297 0 (plain (clone 0)) 1
    ∷ limit 8 64 0 1 1 (plain (clone 0)) 2
    ∷ limit 8 64 0 1 2 (plain (clone 0)) 1
    ∷ limit 8 64 0 1 2 (plain (reset 0 0 1)) 0
    ∷ limit 8 64 0 1 2 (over [] (load 0 0 no_shift)) 1
    ∷ limit 8 64 0 1 2 (over (zeros 1) (access writing 0 0 no_shift)) 1
    ∷ limit 8 64 0 1 2 (plain (create 0 0 1 0 0 0)) 1
    ∷ limit 8 64 0 1 2 (plain (merge 0 0 0 0)) 1
    ∷ limit 8 64 0 1 2 (plain (derive 0 0 1 0 0)) 1
    ∷ limit 8 64 0 1 2 (plain (execute_only 0 0)) 1
    ∷ limit 8 64 0 1 2 (plain (release 0)) 1
    ∷ limit 8 64 0 1 2 (plain (lock 0 1)) 1
    ∷ limit 8 64 0 1 2 (plain (unlock 0 1)) 1
    ∷ limit 8 64 0 1 2 (plain (revoke 0 0)) 1
    ∷ limit 8 64 0 1 2 (over (zeros 56) (dump 0 0 no_shift)) 1
    ∷ limit 8 64 0 1 0 (over (zeros 1) (access reading 0 0 no_shift)) 2
    ∷ limit 8 64 2 1 0 (over (zeros 1) (access writing 0 0 no_shift)) 1
    ∷ limit 8 64 2 1 0 (plain (create 0 0 1 0 0 0)) 1
    ∷ limit 8 64 2 1 0 (plain (merge 0 0 0 0)) 1
    ∷ limit 8 64 2 1 0 (plain (derive 0 0 1 0 0)) 1
    ∷ limit 8 64 2 1 0 (plain (execute_only 0 0)) 1
    ∷ limit 8 64 2 1 0 (plain (release 0)) 1
    ∷ limit 8 64 2 1 0 (plain (lock 0 1)) 1
    ∷ limit 8 64 2 1 0 (plain (unlock 0 1)) 1
    ∷ limit 8 64 2 1 0 (plain (revoke 0 0)) 1
    ∷ limit 8 64 2 1 0 (over ended (load 0 0 no_shift)) 1
    ∷ limit 8 64 2 1 0 (over (zeros 56) (dump 0 0 no_shift)) 1
    ∷ limit 8 64 0 1 0 (over ended (load 0 0 no_shift)) 2
    ∷ limit 8 64 0 1 0 (over [] (dump 0 0 no_shift)) 2
    ∷ []

-- the same, where the table or the buffer is long: computed in `uses`
abbrev pub limits_above : List Row
limits_above =
    limit 8 32768 0 0 0 (plain (reset 0 0 1)) 0
    ∷ limit 8 32800 0 0 0 (plain (reset 0 0 1)) 1
    ∷ limit 8 64 0 1 0 (over (zeros 4096) (access reading 0 0 no_shift)) 2
    ∷ limit 8 64 0 1 0 (over (zeros 4097) (access reading 0 0 no_shift)) 1
    ∷ []

-- leases and minutes over the table that was handed over, with a text whose checksum is wrong
abbrev wrong_sum : List ℕ
wrong_sum = 58 ∷ 48 ∷ 48 ∷ 48 ∷ 48 ∷ 48 ∷ 48 ∷ 48 ∷ 49 ∷ 70 ∷ 69 ∷ 10 ∷ []

abbrev in_shifts : Session
in_shifts = record {
  memory = 64;
  state = known 1 2 14 100 15;
  table = handed;
  rows =
      -- the ends of a window
      refuses (over (zeros 1) (access reading 0x4028000000000000 0 (during 479 day))) 15 0 14 100 15
      ∷ grants (over (zeros 1) (access reading 0x4028000000000000 0 (during 480 day))) [] 0 14 100 15 (fetch 0 1)
      ∷ grants (over (zeros 1) (access reading 0x4028000000000000 0 (during 959 day))) [] 0 14 100 15 (fetch 0 1)
      ∷ refuses (over (zeros 1) (access reading 0x4028000000000000 0 (during 960 day))) 15 0 14 100 15
      ∷ grants (over (zeros 1) (access reading 0x4028000000000000 0 (during 479 night))) [] 0 14 100 15 (fetch 0 1)
      ∷ refuses (over (zeros 1) (access reading 0x4028000000000000 0 (during 480 night))) 15 0 14 100 15
      ∷ refuses (over (zeros 1) (access reading 0x4028000000000000 0 (during 959 night))) 15 0 14 100 15
      ∷ grants (over (zeros 1) (access reading 0x4028000000000000 0 (during 960 night))) [] 0 14 100 15 (fetch 0 1)
      ∷ grants (over (zeros 1) (access reading 0x4028000000000000 0 (during 10079 last_minute))) [] 0 14 100 15 (fetch 0 1)
      ∷ refuses (over (zeros 1) (access reading 0x4028000000000000 0 (during 0 last_minute))) 15 0 14 100 15
      -- several, and others
      ∷ refuses (over (zeros 1) (access reading 0x4028000000000000 0 (during 999 twice))) 15 0 14 100 15
      ∷ grants (over (zeros 1) (access reading 0x4028000000000000 0 (during 1000 twice))) [] 0 14 100 15 (fetch 0 1)
      ∷ grants (over (zeros 1) (access reading 0x4028000000000000 0 (during 500 twice))) [] 0 14 100 15 (fetch 0 1)
      ∷ grants (over (zeros 1) (access reading 0x4028000000000000 0 (during 0 others))) [] 0 14 100 15 (fetch 0 1)
      ∷ grants (over (zeros 1) (access reading 0x28000000000000 0 (during 0 []))) [] 0 14 100 15 (fetch 0 1)
      ∷ grants (over (zeros 1) (access reading 0x4028800000000002 7 (during 0 locked))) [] 0 14 100 15 (fetch 18 1)
      -- each request that is an access
      ∷ refuses (over (200 ∷ []) (access writing 0x4028000000000000 0 (during 0 day))) 15 0 14 100 15
      ∷ refuses (over (zeros 1) (access fetching 0x4028000000000000 0 (during 0 day))) 15 0 14 100 15
      ∷ refuses (over ended (load 0x28000000000000 0 (during 0 day))) 15 0 14 100 15
      ∷ refuses (over (zeros 72) (dump 0x28000000000000 0 (during 0 day))) 15 0 14 100 15
      ∷ refuses (over (200 ∷ []) (access writing 0x4028000000000000 0 (during 480 equal))) 16 0 14 100 15
      ∷ refuses (over (zeros 1) (access fetching 0x4028000000000000 0 (during 480 opens_late))) 16 0 14 100 15
      ∷ refuses (over (zeros 1) (access reading 0x4028000000000000 0 (during 480 closes_late))) 16 0 14 100 15
      ∷ refuses (over ended (load 0x28000000000000 0 (during 480 equal))) 16 0 14 100 15
      ∷ refuses (over (zeros 72) (dump 0x28000000000000 0 (during 480 equal))) 16 0 14 100 15
      ∷ refuses (over (200 ∷ []) (access writing 0x4028000000000000 0 (during 10080 night))) 1 0 14 100 15
      ∷ refuses (over ended (load 0x28000000000000 0 (during 10080 []))) 1 0 14 100 15
      ∷ refuses (over (zeros 72) (dump 0x28000000000000 0 (during 10080 []))) 1 0 14 100 15
      -- the order of checks
      ∷ refuses (over (zeros 1) (access reading 0x4028000000000000 36028797018963968 (during 480 equal))) 1 0 14 100 15
      ∷ refuses (over (zeros 1) (access reading 0x4028000000000000 0 (during 480 (0 ∷ 0 ∷ 160 ∷ 0 ∷ 7 ∷ 0 ∷ 7 ∷ [])))) 1 0 14 100 15
      ∷ refuses (over (zeros 1) (access reading 0x4028000000000000 0 (during 480 (zeros 520)))) 1 0 14 100 15
      ∷ refuses (over (zeros 1) (access reading 0x4028000000000000 0 (during 480 (zeros 512)))) 16 0 14 100 15
      ∷ refuses (over [] (load 0x28000000000000 0 (during 480 equal))) 12 0 14 100 15
      ∷ refuses (over wrong_sum (load 0x28000000000000 0 (during 480 equal))) 13 0 14 100 15
      ∷ refuses (over (zeros 1) (access reading 0xf00000000 0 (during 480 equal))) 16 0 14 100 15
      ∷ refuses (over (zeros 1) (access reading 0x4029400000000005 0 (during 0 broken))) 3 1 14 100 15
      ∷ refuses (over (zeros 1) (access reading 0x4029c00000000007 0 (during 0 broken))) 4 1 14 100 15
      ∷ refuses (over (zeros 1) (access reading 0x4028400000000001 8 (during 0 locked))) 5 0 14 100 15
      ∷ refuses (over (zeros 1) (access reading 0x4028400000000001 7 (during 0 locked))) 15 0 14 100 15
      ∷ refuses (over (zeros 1) (access reading 0x4028c00000000003 0 (during 0 unread))) 15 0 14 100 15
      ∷ refuses (over (zeros 1) (access reading 0x4028c00000000003 0 (during 480 unread))) 7 0 14 100 15
      ∷ refuses (over (zeros 1) (access reading 0x28000000000010 0 (during 0 day))) 15 0 14 100 15
      ∷ refuses (over (zeros 1) (access reading 0x28000000000010 0 (during 480 day))) 8 0 14 100 15
      ∷ refuses (over (zeros 1) (dump 0x28000000000000 0 (during 0 day))) 15 0 14 100 15
      ∷ refuses (over (zeros 1) (dump 0x28000000000000 0 (during 480 day))) 14 0 14 100 15
      ∷ [];
  left = handed;
}

-- 02, paper 5: issues that pass over a nonce whose tag their entry last held: a derive, an execute-only and a part under a number that a drop freed, a merge, the rest of
-- the root, which held tag 0; the derive and the rest also with one nonce too few. Each key was found by search.
abbrev last_tags : Session
last_tags = record {
  memory = 64;
  state = known 0 0 0 0 0;
  table = 0 ∷ 0 ∷ [];
  rows =
      grants (plain (reset 12882 0 1)) [] 0 0 1 1 nothing
      ∷ grants (plain (derive 0 0 8 7 0)) (0x1294800100000000 ∷ []) 0 1 2 0 nothing
      ∷ grants (plain (release 0x1294800100000000)) [] 1 1 2 1 nothing
      ∷ grants (plain (derive 0 0 8 7 0)) (0x12da000100000000 ∷ []) 0 1 4 0 nothing
      ∷ grants (plain (reset 11440 0 4294967294)) [] 0 0 4294967294 1 nothing
      ∷ grants (plain (derive 0 0 8 7 0)) (0x20c0400100000000 ∷ []) 0 1 4294967295 0 nothing
      ∷ grants (plain (release 0x20c0400100000000)) [] 1 1 4294967295 1 nothing
      ∷ refuses (plain (derive 0 0 8 7 0)) 11 0 1 4294967295 1
      ∷ grants (plain (reset 23777 0 1)) [] 0 0 1 1 nothing
      ∷ grants (plain (derive 0 0 8 7 0)) (0x25a800100000000 ∷ []) 0 1 2 0 nothing
      ∷ grants (plain (release 0x25a800100000000)) [] 1 1 2 1 nothing
      ∷ grants (plain (execute_only 0 0)) (0x3dca800100000000 ∷ []) 0 1 4 0 nothing
      ∷ grants (plain (reset 117146 0 1)) [] 0 0 1 1 nothing
      ∷ grants (plain (derive 0 0 8 7 0)) (0x38d9800100000000 ∷ []) 0 1 2 0 nothing
      ∷ grants (plain (release 0x38d9800100000000)) [] 1 1 2 1 nothing
      ∷ grants (plain (create 0 0 16 0 7 0)) (0x28c3000100000000 ∷ 0x2fc000000000000 ∷ []) 0 1 5 0 nothing
      ∷ grants (plain (reset 40932 0 1)) [] 0 0 1 1 nothing
      ∷ grants (plain (create 0 0 16 0 7 0)) (0x5fe000100000000 ∷ 0x2bbc000000000000 ∷ []) 0 1 3 0 nothing
      ∷ grants (plain (merge 0x5fe000100000000 0x2bbc000000000000 0 0)) (0x2c44c00100000000 ∷ []) 0 1 5 0 nothing
      ∷ grants (plain (reset 134729 0 1)) [] 0 0 1 1 nothing
      ∷ grants (plain (create 0 0 16 0 7 0)) (0x1db9800100000000 ∷ 0xabd400000000000 ∷ []) 0 1 4 0 nothing
      ∷ grants (plain (reset 119323 0 4294967294)) [] 0 0 4294967294 1 nothing
      ∷ refuses (plain (create 0 0 16 0 7 0)) 11 0 0 4294967294 1
      ∷ [];
  left =
      0x200000000000000800000000000000000000000000000000003a000000000000
      ∷ 0
      ∷ [];
}

-- and a derive under the number that a merge freed
abbrev last_tags_freed : Session
last_tags_freed = record {
  memory = 64;
  state = known 0 0 0 0 0;
  table = 0 ∷ 0 ∷ 0 ∷ [];
  rows =
      grants (plain (reset 129345 0 1)) [] 0 0 1 2 nothing
      ∷ grants (plain (create 0 0 16 0 7 0)) (0x3ddd400100000000 ∷ 0x2385800000000000 ∷ []) 0 1 3 1 nothing
      ∷ grants (plain (create 0x2385800000000000 0 16 0 7 0)) (0x199a000200000000 ∷ 0xbe400000000000 ∷ []) 0 2 5 0 nothing
      ∷ grants (plain (merge 0x3ddd400100000000 0x199a000200000000 0 0)) (0x195ac00100000000 ∷ []) 0 2 6 1 nothing
      ∷ grants (plain (derive 0x195ac00100000000 0 8 7 0)) (0x289000200000000 ∷ []) 0 2 8 0 nothing
      ∷ [];
  left =
      0x200000040000000400000000000000000000000000000000003a02f900000004
      ∷ 0x200000000000000400002000000000000000000000000000003a656b00000005
      ∷ 0x400000000b2b58000000000020000001000020000000000000380a2400000007
      ∷ [];
}

-- A table with paged entries (02, paper 6). Entry n has tag a0 + n, hex. 0, 1 and 2 are direct, 0 without X and not Lockable, 1 locked for 7; 3 is paged, 4 too and
-- ill-formed; 5 is direct and ill-formed; 6 is under 3; 7 is free.
abbrev paged_table : List ℕ
paged_table =
    0x200000000000000080000000000000000000000000000000027000a00000000a
    ∷ 0x2000000080000000800000000000000001c0000000000000016e00a10000000b
    ∷ 0x200000010000000100000000000000000000000000000000003a00a20000000c
    ∷ 0x7fffffffffffffffe000000080000000003fffffffffffffffe200a30000000d
    ∷ 0x600000000000000020000000800000000040000000000000003a00a40000000e
    ∷ 0x200000020000000080000000000000000000000000000000003b00a50000000f
    ∷ 0x400000000805180000000000600000004000200000000000002000a600000010
    ∷ 0xa700000000
    ∷ []

-- paging out and in: each refusal of both, 17 of each other request, an out and an in that are granted, and the last nonces
abbrev pages : Session
pages = record {
  memory = 24;
  state = known 7 8 0 4294967292 1;
  table = paged_table;
  rows =
      -- out
      refuses (over (zeros 4) (page_out 0x28000000000001 0 1 0)) 1 0 0 4294967292 1
      ∷ refuses (over (zeros 4) (page_out 0x4028000000000000 0 1 4)) 1 0 0 4294967292 1
      ∷ refuses (over (zeros 4) (page_out 0x4028000000000000 36028797018963968 1 0)) 1 0 0 4294967292 1
      ∷ refuses (over (zeros 4) (page_out 0x4029c00000000007 0 1 0)) 2 0 0 4294967292 1
      ∷ refuses (over (zeros 4) (page_out 0x4028400000000000 0 1 0)) 2 0 0 4294967292 1
      ∷ refuses (over (zeros 4) (page_out 0x4028c00000000003 0 1 0)) 17 0 0 4294967292 1
      ∷ refuses (over (zeros 4) (page_out 0x4029000000000004 0 1 0)) 17 0 0 4294967292 1
      ∷ refuses (over (zeros 4) (page_out 0x4029400000000005 0 1 0)) 3 1 0 4294967292 1
      ∷ refuses (over (zeros 2) (page_out 0x4029800000000006 0 1 0)) 4 1 0 4294967292 1
      ∷ refuses (over (zeros 4) (page_out 0x4028400000000001 8 1 0)) 5 0 0 4294967292 1
      ∷ refuses (plain (page_out 0x4028000000000000 0 1 0)) 8 0 0 4294967292 1
      ∷ refuses (over (zeros 3) (page_out 0x4028000000000000 0 1 0)) 8 0 0 4294967292 1
      ∷ refuses (over (zeros 5) (page_out 0x4028000000000000 0 1 0)) 8 0 0 4294967292 1
      ∷ refuses (over (zeros 3) (page_out 0x4028400000000001 7 1 0)) 8 0 0 4294967292 1
      ∷ refuses (over (zeros 4) (page_out 0x4028400000000001 7 1 0)) 9 0 0 4294967292 1
      -- with a child of 2 the table is full
      ∷ grants (plain (derive 0x4028800000000002 0 8 7 1)) (0x4bb0800000000007 ∷ []) 0 7 4294967293 0 nothing
      ∷ refuses (over (zeros 3) (page_out 0x4bb0800000000007 0 1 0)) 6 0 7 4294967293 0
      ∷ refuses (over (zeros 8) (page_out 0x4028800000000002 0 1 0)) 9 0 7 4294967293 0
      ∷ refuses (over (zeros 4) (page_out 0x4028000000000000 0 1 0)) 10 0 7 4294967293 0
      ∷ refuses (over (200 ∷ 201 ∷ 202 ∷ 203 ∷ []) (page_in 0x4028c00000000003 0x4bb0800000000007 0 0)) 6 0 7 4294967293 0
      ∷ grants (plain (release 0x4bb0800000000007)) [] 1 7 4294967293 1 nothing
      -- in
      ∷ refuses (over (200 ∷ 201 ∷ 202 ∷ 203 ∷ []) (page_in 0x28c00300000001 0x4028000000000000 0 0)) 1 0 7 4294967293 1
      ∷ refuses (over (200 ∷ 201 ∷ 202 ∷ 203 ∷ []) (page_in 0x4028c00000000003 0x28000000000001 0 0)) 1 0 7 4294967293 1
      ∷ refuses (over (200 ∷ 201 ∷ 202 ∷ 203 ∷ []) (page_in 0x4028c00000000003 0x4028000000000000 36028797018963968 0)) 1 0 7 4294967293 1
      ∷ refuses (over (200 ∷ 201 ∷ 202 ∷ 203 ∷ []) (page_in 0x4028c00000000003 0x4028000000000000 0 4)) 1 0 7 4294967293 1
      ∷ refuses (over (200 ∷ 201 ∷ 202 ∷ 203 ∷ []) (page_in 0x4029c00000000007 0x4029400000000005 0 0)) 2 0 7 4294967293 1
      ∷ refuses (over (200 ∷ 201 ∷ 202 ∷ 203 ∷ []) (page_in 0x4028c00000000003 0x4029c00000000007 0 0)) 2 0 7 4294967293 1
      ∷ refuses (over (200 ∷ 201 ∷ 202 ∷ 203 ∷ []) (page_in 0x4029000000000004 0x4029c00000000007 0 0)) 3 1 7 4294967293 1
      ∷ refuses (over (200 ∷ 201 ∷ 202 ∷ 203 ∷ []) (page_in 0x4028c00000000003 0x4029400000000005 0 0)) 3 1 7 4294967293 1
      ∷ refuses (over (200 ∷ 201 ∷ 202 ∷ 203 ∷ []) (page_in 0x4028c00000000003 0x4029000000000004 0 0)) 3 1 7 4294967293 1
      ∷ refuses (over (200 ∷ 201 ∷ 202 ∷ 203 ∷ []) (page_in 0x4029800000000006 0x4029c00000000007 0 0)) 4 1 7 4294967293 1
      ∷ refuses (over (200 ∷ 201 ∷ 202 ∷ 203 ∷ []) (page_in 0x4028c00000000003 0x4029800000000006 0 0)) 4 1 7 4294967293 1
      ∷ refuses (over (200 ∷ 201 ∷ 202 ∷ 203 ∷ []) (page_in 0x4028400000000001 0x4029c00000000007 8 0)) 5 0 7 4294967293 1
      ∷ refuses (over (200 ∷ 201 ∷ 202 ∷ 203 ∷ []) (page_in 0x4028c00000000003 0x4028400000000001 8 0)) 5 0 7 4294967293 1
      ∷ refuses (plain (page_in 0x4028000000000000 0x4028800000000002 0 0)) 6 0 7 4294967293 1
      ∷ refuses (plain (page_in 0x4028c00000000003 0x4028c00000000003 0 0)) 6 0 7 4294967293 1
      ∷ refuses (over (200 ∷ 201 ∷ 202 ∷ []) (page_in 0x4028c00000000003 0x4028400000000001 7 0)) 8 0 7 4294967293 1
      ∷ refuses (over (200 ∷ 201 ∷ 202 ∷ 203 ∷ []) (page_in 0x4028c00000000003 0x4028800000000002 0 0)) 8 0 7 4294967293 1
      ∷ refuses (over (200 ∷ 201 ∷ 202 ∷ 203 ∷ 204 ∷ 205 ∷ 206 ∷ 207 ∷ []) (page_in 0x4028c00000000003 0x4028800000000002 0 0)) 8 0 7 4294967293 1
      ∷ refuses (over (200 ∷ 201 ∷ 202 ∷ 203 ∷ []) (page_in 0x4028c00000000003 0x4028400000000001 7 0)) 9 0 7 4294967293 1
      -- each other request of a paged entry, also of one that is ill-formed
      ∷ refuses (over (zeros 1) (access reading 0x4028c00000000003 0 no_shift)) 17 0 7 4294967293 1
      ∷ refuses (over (200 ∷ []) (access writing 0x4029000000000004 0 no_shift)) 17 0 7 4294967293 1
      ∷ refuses (plain (create 0x4028c00000000003 0 4 0 4 0)) 17 0 7 4294967293 1
      ∷ refuses (plain (merge 0x4028c00000000003 0x4028000000000000 0 0)) 17 0 7 4294967293 1
      ∷ refuses (plain (merge 0x4028000000000000 0x4028c00000000003 0 0)) 17 0 7 4294967293 1
      ∷ refuses (plain (derive 0x4028c00000000003 0 4 4 0)) 17 0 7 4294967293 1
      ∷ refuses (plain (execute_only 0x4028c00000000003 0)) 17 0 7 4294967293 1
      ∷ refuses (plain (clone 0x4028c00000000003)) 17 0 7 4294967293 1
      ∷ refuses (plain (release 0x4028c00000000003)) 17 0 7 4294967293 1
      ∷ refuses (plain (release 0x4029000000000004)) 17 0 7 4294967293 1
      ∷ refuses (plain (lock 0x4028c00000000003 7)) 17 0 7 4294967293 1
      ∷ refuses (plain (unlock 0x4028c00000000003 7)) 17 0 7 4294967293 1
      ∷ refuses (plain (revoke 0x4028c00000000003 0)) 17 0 7 4294967293 1
      ∷ refuses (over ended (load 0x4028c00000000003 0 no_shift)) 17 0 7 4294967293 1
      ∷ refuses (over (zeros 56) (dump 0x4028c00000000003 0 no_shift)) 17 0 7 4294967293 1
      -- a child of a paged entry is dead, and its drop ends there
      ∷ refuses (over (zeros 1) (access reading 0x4029800000000006 0 no_shift)) 4 1 7 4294967293 1
      ∷ grants (plain (release 0x4029800000000006)) [] 1 7 4294967293 2 nothing
      -- out, under a page-file number of 64 bits, by the last task; then one nonce is left
      ∷ grants (over (zeros 4) (page_out 0x4028000000000000 36028797018963967 18446744073709551614 2)) (0xb42f800000000000 ∷ 0xb724000000060000 ∷ []) 0 6 4294967295 1 (takes 0 4)
      ∷ refuses (over (zeros 1) (access reading 0x4028000000000000 0 no_shift)) 2 0 6 4294967295 1
      ∷ refuses (over (zeros 1) (access reading 0xb42f800000000000 0 no_shift)) 17 0 6 4294967295 1
      ∷ grants (over (zeros 4) (access reading 0xb724000000060000 0 no_shift)) [] 0 6 4294967295 1 (fetch 0 4)
      ∷ refuses (over (zeros 8) (page_out 0x4028800000000002 0 1 0)) 11 0 6 4294967295 1
      -- in, once the donor is unlocked and not counted; then none is left
      ∷ grants (plain (unlock 0x4028400000000001 7)) [] 0 6 4294967295 1 nothing
      ∷ grants (plain (clone 0x4028400000000001)) [] 0 6 4294967295 1 nothing
      ∷ refuses (over (200 ∷ 201 ∷ 202 ∷ 203 ∷ []) (page_in 0x4028c00000000003 0x4028400000000001 0 3)) 9 0 6 4294967295 1
      ∷ grants (plain (release 0x4028400000000001)) [] 1 6 4294967295 1 nothing
      ∷ grants (over (200 ∷ 201 ∷ 202 ∷ 203 ∷ []) (page_in 0x4028c00000000003 0x4028400000000001 0 3)) (0xc21c800003000000 ∷ []) 0 6 4294967296 2 (store 4 (200 ∷ 201 ∷ 202 ∷ 203 ∷ []))
      ∷ refuses (over (zeros 1) (access reading 0x4028c00000000003 0 no_shift)) 2 0 6 4294967296 2
      ∷ refuses (over (zeros 1) (access reading 0x4028400000000001 0 no_shift)) 2 0 6 4294967296 2
      ∷ grants (over (zeros 4) (access reading 0xc21c800003000000 0 no_shift)) [] 0 6 4294967296 2 (fetch 4 4)
      ∷ refuses (over (zeros 8) (page_out 0x4028800000000002 0 1 0)) 11 0 6 4294967296 2
      ∷ refuses (over (200 ∷ 201 ∷ 202 ∷ 203 ∷ []) (page_in 0xb42f800000000000 0xb724000000060000 0 0)) 11 0 6 4294967296 2
      ∷ [];
  left =
      0x7fffffffffffffffc00000008000000000000000000000000270d0befffffffd
      ∷ 0xa100000000
      ∷ 0x200000010000000100000000000000000000000000000000003a00a20000000c
      ∷ 0x20000000800000008000000000000000003fffffffffffffffe20872ffffffff
      ∷ 0x600000000000000020000000800000000040000000000000003a00a40000000e
      ∷ 0x200000020000000080000000000000000000000000000000003b00a50000000f
      ∷ 0x200000000000000080000000000000000000000000000000003adc90fffffffe
      ∷ 0x2ec200000000
      ∷ [];
}

-- computed in this crate, and in `uses`
abbrev pub sessions : List Session
sessions = handed_over ∷ handed_on ∷ going_round ∷ last_nonces ∷ wholes ∷ none_left ∷ imaged ∷ []

abbrev pub sessions_above : List Session
sessions_above = from_reset ∷ in_shifts ∷ pages ∷ []

abbrev pub sessions_kept : List Session
sessions_kept = last_tags ∷ last_tags_freed ∷ []

-- bytes that are written, read and fetched, loaded and dumped, through the root of 8 bytes
abbrev root8 : List ℕ
root8 = 0x200000000000000100000000000000000000000000000000003a000000000000 ∷ 0 ∷ []

abbrev pub bytes_moved : List Row
bytes_moved =
    moves (known 0 0 0 1 0) root8 (1 ∷ 2 ∷ 3 ∷ 4 ∷ 5 ∷ 6 ∷ 7 ∷ 8 ∷ [])
    (over (201 ∷ 202 ∷ 203 ∷ []) (access writing 2 0 no_shift) ∷ over (zeros 4) (access reading 1 0 no_shift) ∷ [])
    (201 ∷ 202 ∷ 203 ∷ 2 ∷ 201 ∷ 202 ∷ 203 ∷ [])
    (1 ∷ 2 ∷ 201 ∷ 202 ∷ 203 ∷ 6 ∷ 7 ∷ 8 ∷ [])
    ∷ moves (known 0 0 0 1 0) root8 (1 ∷ 2 ∷ 201 ∷ 202 ∷ 203 ∷ 6 ∷ 7 ∷ 8 ∷ [])
    (over (zeros 2) (access fetching 4 0 no_shift) ∷ over (9 ∷ 9 ∷ []) (access reading 7 0 no_shift) ∷ [])
    (203 ∷ 6 ∷ 9 ∷ 9 ∷ [])
    (1 ∷ 2 ∷ 201 ∷ 202 ∷ 203 ∷ 6 ∷ 7 ∷ 8 ∷ [])
    ∷ moves (known 0 0 0 1 0) root8 (1 ∷ 2 ∷ 3 ∷ 4 ∷ 5 ∷ 6 ∷ 7 ∷ 8 ∷ [])
    (over (58 ∷ 48 ∷ 52 ∷ 48 ∷ 48 ∷ 48 ∷ 48 ∷ 48 ∷ 48 ∷ 48 ∷ 66 ∷ 48 ∷ 67 ∷ 48 ∷ 68 ∷ 48 ∷ 69 ∷ 67 ∷ 65 ∷ 10 ∷ 58 ∷ 48 ∷ 50 ∷ 48 ∷ 48 ∷ 48 ∷ 50 ∷ 48 ∷ 48 ∷ 97 ∷ 98 ∷ 99 ∷ 100 ∷ 56 ∷ 52 ∷ 10 ∷ 58 ∷ 48 ∷ 50 ∷ 48 ∷ 48 ∷ 48 ∷ 48 ∷ 48 ∷ 52 ∷ 48 ∷ 48 ∷ 48 ∷ 55 ∷ 70 ∷ 51 ∷ 10 ∷ 58 ∷ 48 ∷ 50 ∷ 48 ∷ 48 ∷ 48 ∷ 48 ∷ 48 ∷ 52 ∷ 48 ∷ 48 ∷ 48 ∷ 48 ∷ 70 ∷ 65 ∷ 10 ∷ 58 ∷ 48 ∷ 49 ∷ 48 ∷ 48 ∷ 48 ∷ 55 ∷ 48 ∷ 48 ∷ 54 ∷ 51 ∷ 57 ∷ 53 ∷ 10 ∷ 58 ∷ 48 ∷ 48 ∷ 48 ∷ 48 ∷ 48 ∷ 48 ∷ 48 ∷ 49 ∷ 70 ∷ 70 ∷ 10 ∷ []) (load 0 0 no_shift) ∷ over (zeros 58) (dump 0 0 no_shift) ∷ [])
    (58 ∷ 48 ∷ 52 ∷ 48 ∷ 48 ∷ 48 ∷ 48 ∷ 48 ∷ 48 ∷ 48 ∷ 66 ∷ 48 ∷ 67 ∷ 48 ∷ 68 ∷ 48 ∷ 69 ∷ 67 ∷ 65 ∷ 10 ∷ 58 ∷ 48 ∷ 50 ∷ 48 ∷ 48 ∷ 48 ∷ 50 ∷ 48 ∷ 48 ∷ 97 ∷ 98 ∷ 99 ∷ 100 ∷ 56 ∷ 52 ∷ 10 ∷ 58 ∷ 48 ∷ 50 ∷ 48 ∷ 48 ∷ 48 ∷ 48 ∷ 48 ∷ 52 ∷ 48 ∷ 48 ∷ 48 ∷ 55 ∷ 70 ∷ 51 ∷ 10 ∷ 58 ∷ 48 ∷ 50 ∷ 48 ∷ 48 ∷ 48 ∷ 48 ∷ 48 ∷ 52 ∷ 48 ∷ 48 ∷ 48 ∷ 48 ∷ 70 ∷ 65 ∷ 10 ∷ 58 ∷ 48 ∷ 49 ∷ 48 ∷ 48 ∷ 48 ∷ 55 ∷ 48 ∷ 48 ∷ 54 ∷ 51 ∷ 57 ∷ 53 ∷ 10 ∷ 58 ∷ 48 ∷ 48 ∷ 48 ∷ 48 ∷ 48 ∷ 48 ∷ 48 ∷ 49 ∷ 70 ∷ 70 ∷ 10 ∷ 58 ∷ 48 ∷ 50 ∷ 48 ∷ 48 ∷ 48 ∷ 48 ∷ 48 ∷ 52 ∷ 48 ∷ 48 ∷ 48 ∷ 48 ∷ 70 ∷ 65 ∷ 10 ∷ 58 ∷ 48 ∷ 56 ∷ 48 ∷ 48 ∷ 48 ∷ 48 ∷ 48 ∷ 48 ∷ 48 ∷ 66 ∷ 48 ∷ 67 ∷ 65 ∷ 66 ∷ 67 ∷ 68 ∷ 48 ∷ 53 ∷ 48 ∷ 54 ∷ 48 ∷ 55 ∷ 54 ∷ 51 ∷ 70 ∷ 52 ∷ 10 ∷ 58 ∷ 48 ∷ 48 ∷ 48 ∷ 48 ∷ 48 ∷ 48 ∷ 48 ∷ 49 ∷ 70 ∷ 70 ∷ 10 ∷ 0 ∷ 0 ∷ [])
    (11 ∷ 12 ∷ 171 ∷ 205 ∷ 5 ∷ 6 ∷ 7 ∷ 99 ∷ [])
    ∷ []
