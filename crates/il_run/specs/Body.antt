-- Parts of a function's MIR that the generated modules have under no name: the first arm of a branch, and what follows the first statement. It says nothing of the crate.
-- Assumes nothing.
use package.mir.Syntax.{Body, skip, seq, assign, block, loop, cond, switch, exit, return, call, unreachable, call_v, lend_static}

abbrev pub then_of : Body → Body
then_of (cond c a b) = a
then_of skip = skip
then_of (seq a b) = skip
then_of (assign p v) = skip
then_of (block b) = skip
then_of (loop b) = skip
then_of (switch c xs) = skip
then_of (exit n) = skip
then_of return = skip
then_of (call f xs d) = skip
then_of unreachable = skip
then_of (call_v c t xs d) = skip
then_of (lend_static p t k) = skip

abbrev pub rest_of_body : Body → Body
rest_of_body (seq a b) = b
rest_of_body (cond c a b) = skip
rest_of_body skip = skip
rest_of_body (assign p v) = skip
rest_of_body (block b) = skip
rest_of_body (loop b) = skip
rest_of_body (switch c xs) = skip
rest_of_body (exit n) = skip
rest_of_body return = skip
rest_of_body (call f xs d) = skip
rest_of_body unreachable = skip
rest_of_body (call_v c t xs d) = skip
rest_of_body (lend_static p t k) = skip
