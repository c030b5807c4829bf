-- What is told of a reason or a slip.
use Rattle.std.specs.Prelude.{ℕ, ◌==◌, List, [], ◌++◌, codes, length, if◌then◌else◌}
use Rattle.program_advice.specs.Bytes.{shown}

-- what it means, what it most often is, and what to do; the last two may be empty
pub record Prose : Type 0 where
  pub means : List ℕ
  pub often : List ℕ
  pub cure : List ℕ

-- a part of a line between quotes; nothing where it is empty
unfoldable pub quote_text : List ℕ → List ℕ
quote_text quoted = if length quoted == 0 then [] else codes "`" ++ shown quoted ++ codes "` "

-- sentences behind a part of a line
abbrev pub quoted_prose : List ℕ → Prose → Prose
quoted_prose quoted prose = record { means = quote_text quoted ++ prose.means; often = prose.often; cure = prose.cure }

-- one sentence alone
abbrev pub one_sentence : List ℕ → Prose
one_sentence means = record { means = means; often = []; cure = [] }

-- where there is a change, it stands in the place of what the mistake most often is, and of what to do
abbrev pub helped_prose : List ℕ → Prose → Prose
helped_prose help prose = if length help == 0 then prose else record { means = prose.means; often = []; cure = help }
