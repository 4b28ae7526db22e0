-- `climbs::climb::climb`: the calls that are left fall at each call.
use Rattle.climbs.proofs.climb.+climb.Given as goal

abbrev pub decreases-climb : goal.decreases-climb
decreases-climb l = l.calls
