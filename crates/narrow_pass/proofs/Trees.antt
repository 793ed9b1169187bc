-- What the tree of each operation is, for functions that go by its form.
use Rattle.core_code.proofs.Views.{tree_set, tree_address, tree_copy, tree_load, tree_store, tree_unary, tree_binary, tree_convert, tree_bit_read, tree_bit_write, tree_call, tree_leave, tree_many, tree_if, tree_loop, tree_exit, tree_again}

pub ruleset trees = (tree_set, tree_address, tree_copy, tree_load, tree_store, tree_unary, tree_binary, tree_convert, tree_bit_read, tree_bit_write, tree_call, tree_leave, tree_many, tree_if, tree_loop, tree_exit, tree_again)
