-- What bodies come to and what rungs do, apart from their instructions. Laws/Execute.antt proves that executing the instructions does the same.
use Rattle.std.specs.Prelude.{ℕ, suc, Bool, true, false, ◌&&◌, ◌||◌, cond, List, [], ◌∷◌}
use Rattle.std.specs.Bool.{beq}
use Rattle.meaning.specs.Programs.{Test, Chain, Part, also, bracket, Body, Rung, TimerRung, Program, all}
use Rattle.meaning.specs.Scan.{Controller, MidScan, value_of, stored_in, with_result, with_block, with_in, with_pt, ton}
use Rattle.meaning.specs.declared.Operator.{Operator}
use Rattle.meaning.specs.declared.Operator.TheVariants.{Ld, Ldn, And, Andn, Or, Close, St, S, R, Cal, LdTime}

unfoldable pub test_passes : ℕ → Controller → Test → Bool
test_passes x k t = beq t.wanted (value_of x k t.operand)

unfoldable pub chain_passes : ℕ → Controller → Chain → Bool
chain_passes x k h = test_passes x k h.first && all (test_passes x k) h.more

-- the result v after a further part
unfoldable pub part_after : ℕ → Controller → Bool → Part → Bool
part_after x k v (also t) = v && test_passes x k t
part_after x k v (bracket h) = v || chain_passes x k h

unfoldable pub parts_after : ℕ → Controller → Bool → List Part → Bool
parts_after x k v [] = v
parts_after x k v (p ∷ ps) = parts_after x k (part_after x k v p) ps

unfoldable pub body_passes : ℕ → Controller → Body → Bool
body_passes x k b = parts_after x k (test_passes x k b.first) b.parts

-- a store, where the body came to v
unfoldable pub store_done : Bool → Operator → MidScan → MidScan
store_done v (Ld o) w = w
store_done v (Ldn o) w = w
store_done v (And o) w = w
store_done v (Andn o) w = w
store_done v Or w = w
store_done v Close w = w
store_done v (St o) w = stored_in v o w
store_done v (S o) w = cond v (stored_in true o w) w
store_done v (R o) w = cond v (stored_in false o w) w
store_done v (Cal o) w = w
store_done v (LdTime n) w = w

unfoldable pub stores_done : Bool → List Operator → MidScan → MidScan
stores_done v [] w = w
stores_done v (s ∷ ss) w = stores_done v ss (store_done v s w)

unfoldable pub rung_done : ℕ → Rung → MidScan → MidScan
rung_done x r w = let v = body_passes x w.controller r.body in stores_done v (r.store ∷ r.stores) (with_result v w)

unfoldable pub rungs_done : ℕ → List Rung → MidScan → MidScan
rungs_done x [] w = w
rungs_done x (r ∷ rs) w = rungs_done x rs (rung_done x r w)

unfoldable pub with_time : ℕ → MidScan → MidScan
with_time t w = record { result = w.result; deferred = w.deferred; time = t; controller = w.controller; outputs = w.outputs }

-- the rung of block n, with the scan step d
unfoldable pub timer_rung_done : ℕ → ℕ → ℕ → TimerRung → MidScan → MidScan
timer_rung_done d x n r w = let v = body_passes x w.controller r.body in
    with_block n (ton d) (with_block n (with_pt r.time) (with_time r.time (with_block n (with_in v) (with_result v w))))

unfoldable pub timer_rungs_done : ℕ → ℕ → ℕ → List TimerRung → MidScan → MidScan
timer_rungs_done d x n [] w = w
timer_rungs_done d x n (r ∷ rs) w = timer_rungs_done d x (suc n) rs (timer_rung_done d x n r w)

unfoldable pub program_done : ℕ → ℕ → Program → MidScan → MidScan
program_done d x p w = rungs_done x p.rungs (timer_rungs_done d x 1 p.timers w)
