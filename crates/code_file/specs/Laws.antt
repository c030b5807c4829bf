-- Laws of codes and their texts, over the definitions alone.
use Rattle.std.specs.Prelude.{◌≡◌, ◌≤◌, ℕ, List, [], ◌++◌, Ok, length}
use Rattle.vap_code.specs.Codes.{CodeOf}
use Rattle.code_file.specs.Text.{HasText, code_text}
use Rattle.code_file.specs.Reading.{code_of}

-- the text of a code is read, and gives the code again
abbrev pub TextIsRead : Type 0
TextIsRead = (c : CodeOf) → HasText c → code_of (code_text c) ≡ Ok c

-- what is read has a text, and it is that one
abbrev pub OneText : Type 0
OneText = (bytes : List ℕ) (c : CodeOf) → code_of bytes ≡ Ok c → HasText c × (bytes ≡ code_text c)

-- no text of a code begins another's
abbrev pub NoTextBegins : Type 0
NoTextBegins = (c d : CodeOf) (more : List ℕ) → HasText c → HasText d → code_text d ≡ code_text c ++ more → (more ≡ []) × (d ≡ c)

-- the text of a code is within the limit of a code file, 2,097,152 bytes
abbrev pub TextIsShort : Type 0
TextIsShort = (c : CodeOf) → HasText c → length (code_text c) ≤ 2097152
