-- The examples agree with the definitions.
-- Assumes nothing.
use mathlib.Core.Path.{refl}
use Rattle.leases.specs.Examples.{Early, Edges, Night, Others, Several, Stored}
use Rattle.leases.specs.Lease.{covers, first_leases, is_open, lease_at, leases_of}

pub stored : Stored
unfolding leases_of first_leases lease_at
stored = refl

pub early_minutes : Early
unfolding covers
early_minutes = refl

pub night_minutes : Night
unfolding covers
night_minutes = refl

pub several : Several
unfolding is_open covers
several = refl

pub others : Others
unfolding is_open covers
others = (refl, refl, refl)

pub edges : Edges
edges = refl
