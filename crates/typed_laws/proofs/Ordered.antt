-- The nodes of an expression end one behind the other.
use Rattle.std.proofs.Common.{◌≡◌, ℕ, ◌+◌, ◌≤◌, List, [], ◌∷◌, ◌++◌, length, arith, length-append}
use Rattle.c_token.specs.declared.token.Punct.TheVariants as marks
use Rattle.c_nodes.specs.Trees as tree
use Rattle.c_nodes.specs.Trees.{Tree, Post, spelled, spelled_post, spelled_type}
use Rattle.c_nodes.specs.Words.{punct}
use Rattle.typed_laws.specs.Firsts.{InOrder}
use Rattle.typed_laws.specs.Nodes.{Node, Placed, at, nodes_of, nodes_behind}

-- nodes behind nodes, up to a place behind
joined : (from mid to : ℕ) (xs ys : List Placed) → InOrder from xs mid → InOrder mid ys to → InOrder from (xs ++ ys) to
joined from mid to [] [] h g = omega arith
joined from mid to [] (y ∷ ys) h g = let le : mid ≤ y.end = g.0 in (omega arith, g.1)
joined from mid to (x ∷ xs) ys h g = (h.0, joined x.end mid to xs ys h.1 g)

-- nodes that begin behind a place
later : (start from to : ℕ) (xs : List Placed) → start ≤ from → InOrder from xs to → InOrder start xs to
later start from to xs le h = joined start from to [] xs le h

-- nodes that end before a place
until : (from mid to : ℕ) (xs : List Placed) → mid ≤ to → InOrder from xs mid → InOrder from xs to
until from mid to [] le h = omega arith
until from mid to (x ∷ xs) le h = (h.0, until x.end mid to xs le h.1)

-- one node at the end, which ends there
one_last : (from mid to : ℕ) (xs : List Placed) (node : Node) (end : ℕ) → InOrder from xs mid → mid ≤ end → end ≡ to → InOrder from (xs ++ at node end ∷ []) to
one_last from mid to xs node end h le is = joined from mid to xs (at node end ∷ []) h (le, omega arith)

-- a node behind nodes, and others behind it
one_between : (from mid end to : ℕ) (xs ys : List Placed) (node : Node) → InOrder from xs mid → mid ≤ end → InOrder end ys to → InOrder from (xs ++ at node end ∷ ys) to
one_between from mid end to xs ys node h le g = joined from mid to xs (at node end ∷ ys) h (le, g)

mutual
  pub in_order : (e : Tree) (from : ℕ) → InOrder from (nodes_of e from) (from + length (spelled e))
  in_order (tree.Leaf s) from = (omega arith, omega arith)
  in_order (tree.Group opening e closing) from = later from (from + 1) _ _ (omega arith)
      (one_last (from + 1) (from + 1 + length (spelled e)) _ (nodes_of e (from + 1)) _ _ (in_order e (from + 1)) (omega arith) (omega (arith, length-append (spelled e) (punct marks.RightParenthesis closing ∷ []))))
  in_order (tree.Behind e p) from = joined from (from + length (spelled e)) _ (nodes_of e from) _ (in_order e from) (until (from + length (spelled e)) (from + length (spelled e) + length (spelled_post p)) _ _ (omega (arith, length-append (spelled e) (spelled_post p))) (behind_in_order p (from + length (spelled e))))
  in_order (tree.Before (tree.Sign s) e) from = later from (from + 1) _ _ (omega arith) (one_last (from + 1) (from + 1 + length (spelled e)) _ (nodes_of e (from + 1)) _ _ (in_order e (from + 1)) (omega arith) (omega arith))
  in_order (tree.Before (tree.Sizeof line) e) from = later from (from + 1) _ _ (omega arith) (one_last (from + 1) (from + 1 + length (spelled e)) _ (nodes_of e (from + 1)) _ _ (in_order e (from + 1)) (omega arith) (omega arith))
  in_order (tree.Before (tree.Cast line ty closing) e) from = (
    omega arith,
    later (from + 1 + length (spelled_type ty)) (from + 2 + length (spelled_type ty)) _ _ (omega arith)
        (one_last (from + 2 + length (spelled_type ty)) (from + 2 + length (spelled_type ty) + length (spelled e)) _ (nodes_of e (from + 2 + length (spelled_type ty))) _ _ (in_order e (from + 2 + length (spelled_type ty))) (omega arith)
        (omega (arith, length-append (spelled_type ty ++ punct marks.RightParenthesis closing ∷ []) (spelled e), length-append (spelled_type ty) (punct marks.RightParenthesis closing ∷ [])))),
  )
  in_order (tree.Measure line opening ty closing) from = (omega arith, (omega arith, omega (arith, length-append (spelled_type ty) (punct marks.RightParenthesis closing ∷ []))))
  in_order (tree.Join s a b) from = one_between from (from + length (spelled a)) (from + length (spelled a)) _ (nodes_of a from) _ _ (in_order a from) (omega arith)
      (later (from + length (spelled a)) (from + length (spelled a) + 1) _ _ (omega arith)
      (one_last (from + length (spelled a) + 1) (from + length (spelled a) + 1 + length (spelled b)) _ (nodes_of b (from + length (spelled a) + 1)) _ _ (in_order b (from + length (spelled a) + 1)) (omega arith) (omega (arith, length-append (spelled a) (s ∷ spelled b)))))
  in_order (tree.Choose c question a colon b) from = one_between from (from + length (spelled c)) (from + length (spelled c)) _ (nodes_of c from) _ _ (in_order c from) (omega arith)
      (later (from + length (spelled c)) (from + length (spelled c) + 1) _ _ (omega arith)
      (one_between (from + length (spelled c) + 1) (from + length (spelled c) + 1 + length (spelled a)) (from + length (spelled c) + 1 + length (spelled a)) _ (nodes_of a (from + length (spelled c) + 1)) _ _ (in_order a (from + length (spelled c) + 1)) (omega arith)
      (later (from + length (spelled c) + 1 + length (spelled a)) (from + length (spelled c) + 1 + length (spelled a) + 1) _ _ (omega arith)
      (one_last (from + length (spelled c) + 1 + length (spelled a) + 1) (from + length (spelled c) + 1 + length (spelled a) + 1 + length (spelled b)) _ (nodes_of b (from + length (spelled c) + 1 + length (spelled a) + 1)) _ _ (in_order b (from + length (spelled c) + 1 + length (spelled a) + 1)) (omega arith)
      (omega (arith, length-append (spelled c) (punct marks.Question question ∷ (spelled a ++ punct marks.Colon colon ∷ spelled b)), length-append (spelled a) (punct marks.Colon colon ∷ spelled b)))))))
  in_order (tree.Assign a s b) from = one_between from (from + length (spelled a)) (from + length (spelled a)) _ (nodes_of a from) _ _ (in_order a from) (omega arith)
      (later (from + length (spelled a)) (from + length (spelled a) + 1) _ _ (omega arith)
      (one_last (from + length (spelled a) + 1) (from + length (spelled a) + 1 + length (spelled b)) _ (nodes_of b (from + length (spelled a) + 1)) _ _ (in_order b (from + length (spelled a) + 1)) (omega arith) (omega (arith, length-append (spelled a) (s ∷ spelled b)))))

  behind_in_order : (p : Post) (from : ℕ) → InOrder from (nodes_behind p from) (from + length (spelled_post p))
  behind_in_order (tree.Index opening e closing) from = (
    omega arith,
    later from (from + 1) _ _ (omega arith) (one_last (from + 1) (from + 1 + length (spelled e)) _ (nodes_of e (from + 1)) _ _ (in_order e (from + 1)) (omega arith) (omega (arith, length-append (spelled e) (punct marks.RightBracket closing ∷ [])))),
  )
  behind_in_order (tree.CallBare opening closing) from = (omega arith, (omega arith, omega arith))
  behind_in_order (tree.Call opening e closing) from = (
    omega arith,
    later from (from + 1) _ _ (omega arith) (one_last (from + 1) (from + 1 + length (spelled e)) _ (nodes_of e (from + 1)) _ _ (in_order e (from + 1)) (omega arith) (omega (arith, length-append (spelled e) (punct marks.RightParenthesis closing ∷ [])))),
  )
  behind_in_order (tree.Field s n) from = (omega arith, omega arith)
  behind_in_order (tree.Step s) from = (omega arith, omega arith)
