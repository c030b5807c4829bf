-- Which of the trees a name lies in.
use Rattle.std.specs.Prelude.{ℕ, ◌+◌, ◌*◌, ◌%◌, List, fold}

-- the tree with one more letter
abbrev pub next_tree : ℕ → ℕ → ℕ
next_tree tree letter = (tree * 37 + letter) % 1024

-- the tree of a name
unfoldable pub tree_of : List ℕ → ℕ
tree_of name = fold next_tree 0 name
