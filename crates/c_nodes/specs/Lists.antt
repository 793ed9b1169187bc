-- Trees from the lists that the code has: what is behind one another there stands in one another here.
use Rattle.std.specs.Prelude.{ℕ, List, [], ◌∷◌}
use Rattle.c_token.specs.declared.token.Punct.TheVariants as marks
use Rattle.c_nodes.specs.Words.{Symbol, punct}
use Rattle.c_nodes.specs.Trees.{Tree, Behind, Before, Join, Choose, Assign, Post, Pre, SpecTree, MoreSpecs, NoSpec, AndSpec, MemberTree, MoreMembers, NoMember, AndMember, DeclaratorTree, MoreDeclarators, NoDeclarator, AndDeclarator, SuffixTree, SuffixTrees, NoSuffix, AndSuffix, ParamTree, MoreParams, NoParam, AndParam, EnumeratorTree, MoreEnumerators, NoEnumerator, AndEnumerator}

-- an operand with the postfixes behind it
abbrev pub posted : Tree → List Post → Tree
posted e [] = e
posted e (p ∷ ps) = posted (Behind e p) ps

-- an operand with the prefixes before it, the outermost first
abbrev pub prefixed : List Pre → Tree → Tree
prefixed [] e = e
prefixed (p ∷ ps) e = Before p (prefixed ps e)

-- operators of one tier with their right operands, which group to the left
abbrev pub joined : Tree → List (Symbol × Tree) → Tree
joined a [] = a
joined a (b ∷ bs) = joined (Join b.0 a b.1) bs

-- the same with commas
abbrev pub listed : Tree → List (ℕ × Tree) → Tree
listed a [] = a
listed a (b ∷ bs) = listed (Join (punct marks.Comma b.0) a b.1) bs

-- a condition, the line of `?`, what stands behind it, the line of `:`
abbrev pub ChoiceParts : Type 0
ChoiceParts = Tree × ℕ × Tree × ℕ

abbrev pub chosen : List ChoiceParts → Tree → Tree
chosen [] e = e
chosen (c ∷ cs) e = Choose c.0 c.1 c.2 c.3 (chosen cs e)

-- left sides with their operators, the outermost first
abbrev pub assigned : List (Tree × Symbol) → Tree → Tree
assigned [] e = e
assigned (t ∷ ts) e = Assign t.0 t.1 (assigned ts e)

abbrev pub more_specs : List SpecTree → MoreSpecs
more_specs [] = NoSpec
more_specs (s ∷ ss) = AndSpec s (more_specs ss)

abbrev pub more_members : List MemberTree → MoreMembers
more_members [] = NoMember
more_members (m ∷ ms) = AndMember m (more_members ms)

abbrev pub more_declarators : List (ℕ × DeclaratorTree) → MoreDeclarators
more_declarators [] = NoDeclarator
more_declarators (d ∷ ds) = AndDeclarator d.0 d.1 (more_declarators ds)

abbrev pub suffixes_of : List SuffixTree → SuffixTrees
suffixes_of [] = NoSuffix
suffixes_of (s ∷ ss) = AndSuffix s (suffixes_of ss)

abbrev pub more_params : List (ℕ × ParamTree) → MoreParams
more_params [] = NoParam
more_params (p ∷ ps) = AndParam p.0 p.1 (more_params ps)

abbrev pub more_enumerators : List (ℕ × EnumeratorTree) → MoreEnumerators
more_enumerators [] = NoEnumerator
more_enumerators (e ∷ es) = AndEnumerator e.0 e.1 (more_enumerators es)
