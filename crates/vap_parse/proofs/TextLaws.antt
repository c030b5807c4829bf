-- The laws of statements, declarations and programs.
use Rattle.std.proofs.Common.{ℕ, zero, suc, List, [], Bool, true, false, refl}
use Rattle.std.specs.Prelude.{◌||◌, ℤ}
use Rattle.vap_ast.specs.Syntax.{Item, Constant, Array, Routine}
use Rattle.vap_parse.specs.declared.kind.Kind.{Kind}
use Rattle.vap_parse.specs.declared.kind.Kind.TheVariants as k
use Rattle.vap_parse.specs.declared.kind.Rank.TheVariants as rank
use Rattle.vap_parse.specs.Kinds.{same_kind, begins, declares}
use Rattle.vap_parse.specs.Input.{Parser, max_levels, max_ifs}
use Rattle.vap_parse.specs.Forms.{Form}
use Rattle.vap_parse.specs.Descent.{is, is_timer, Declared}
use Rattle.vap_parse.specs.Descent as r
use Rattle.vap_parse.specs.Grammar as g
use Rattle.vap_parse.proofs.Law.{Law, no_kind, gives_law, then_law, either_law, anew_law}
use Rattle.vap_parse.proofs.Rounds.{many_law}
use Rattle.vap_parse.proofs.Skips.{any_kind, balanced_law}
use Rattle.vap_parse.proofs.Tokens.{expect_law, enter_law, name_law, number_law, frequency_law, command_law, timer_law, is_command}
use Rattle.vap_parse.proofs.ExprLaws.{starts, goes, index_law, arguments_law, expr_law, inner_law}

-- what an item begins with, and what may go on with it
abbrev pub behind_item : Kind → Bool
behind_item kd = is k.Semi kd || goes rank.Or kd

abbrev pub behind_items : Kind → Bool
behind_items kd = begins kd || behind_item kd

abbrev pub at_block : Kind → Bool
at_block kd = is k.Semi kd || begins kd

abbrev simples : Kind → Bool
simples kd = is k.Goto kd || (is k.Gosub kd || (is k.Trace kd || (is_timer kd || is_command kd)))

pub expression_law : Law r.expression g.expression (starts rank.Or) (goes rank.Or) false
unfolding r.expression g.expression same_kind
expression_law = anew_law (expr_law max_levels rank.Or)

pub one_semi_law : (u : Unit {0}) → Law (r.one_semi u) (g.one_semi u) (is k.Semi) no_kind false
unfolding r.one_semi g.one_semi same_kind
one_semi_law u = then_law (is k.Semi) no_kind (expect_law k.Semi refl) (λ _. gives_law tt) refl

pub semis_law : Law r.semis g.semis (is k.Semi) (is k.Semi) true
unfolding r.semis g.semis same_kind
semis_law = many_law (is k.Semi) (is k.Semi) (is k.Semi) one_semi_law refl tt

pub labelled_law : (w : List ℕ × ℕ) → Law (r.labelled w) (g.labelled w) (is k.Colon) no_kind false
unfolding r.labelled g.labelled same_kind
labelled_law w = then_law (is k.Colon) no_kind (expect_law k.Colon refl) (λ _. gives_law _) refl

pub assigned_law : (w : List ℕ × ℕ) → Law (r.assigned w) (g.assigned w) (is k.Assign) (goes rank.Or) false
unfolding r.assigned g.assigned same_kind
assigned_law w = then_law (is k.Assign) (goes rank.Or) (expect_law k.Assign refl)
    (λ _. then_law (starts rank.Or) (goes rank.Or) expression_law (λ x. gives_law _) refl) refl

pub cell_assigned_law : (w : List ℕ × ℕ) → Law (r.cell_assigned w) (g.cell_assigned w) (is k.OpenIndex) (goes rank.Or) false
unfolding r.cell_assigned g.cell_assigned same_kind
cell_assigned_law w = then_law (is k.OpenIndex) (goes rank.Or)
    (index_law max_levels (r.inner max_levels) (g.inner max_levels) (inner_law max_levels))
    (λ i. then_law (is k.Assign) (goes rank.Or) (expect_law k.Assign refl)
    (λ _. then_law (starts rank.Or) (goes rank.Or) (expr_law max_levels rank.Or) (λ x. gives_law _) refl) refl) refl

pub named_item_law : Law r.named_item g.named_item (is k.Name) (goes rank.Or) false
unfolding r.named_item g.named_item same_kind
named_item_law = then_law (is k.Name) (goes rank.Or) name_law
    (λ w. either_law (is k.Colon) (λ kd. is k.Colon kd || (is k.Assign kd || is k.OpenIndex kd)) (goes rank.Or) (labelled_law w)
    (either_law (is k.Assign) (λ kd. is k.Assign kd || is k.OpenIndex kd) (goes rank.Or) (assigned_law w) (anew_law (cell_assigned_law w)) refl) refl) refl

pub to_label_law : Law r.to_label g.to_label (is k.Name) no_kind false
unfolding r.to_label g.to_label same_kind
to_label_law = then_law (is k.Name) no_kind name_law (λ w. gives_law _) refl

pub to_end_law : Law r.to_end g.to_end (is k.ProgEnde) no_kind false
unfolding r.to_end g.to_end same_kind
to_end_law = then_law (is k.ProgEnde) no_kind (expect_law k.ProgEnde refl) (λ _. gives_law _) refl

pub goto_law : Law r.goto g.goto (is k.Goto) no_kind false
unfolding r.goto g.goto same_kind
goto_law = then_law (is k.Goto) no_kind (expect_law k.Goto refl)
    (λ line. then_law (λ kd. is k.ProgEnde kd || is k.Name kd) no_kind
    (either_law (is k.ProgEnde) (λ kd. is k.ProgEnde kd || is k.Name kd) no_kind to_end_law to_label_law refl) (λ to. gives_law _) refl) refl

pub gosub_law : Law r.gosub g.gosub (is k.Gosub) no_kind false
unfolding r.gosub g.gosub same_kind
gosub_law = then_law (is k.Gosub) no_kind (expect_law k.Gosub refl) (λ line. then_law (is k.Name) no_kind name_law (λ w. gives_law _) refl) refl

pub trace_law : Law r.trace g.trace (is k.Trace) no_kind false
unfolding r.trace g.trace same_kind
trace_law = then_law (is k.Trace) no_kind (expect_law k.Trace refl)
    (λ line. then_law (is k.Open) no_kind (expect_law k.Open refl) (λ _. then_law any_kind no_kind balanced_law (λ _. gives_law _) refl) refl) refl

pub timer_statement_law : Law r.timer_statement g.timer_statement is_timer no_kind false
unfolding r.timer_statement g.timer_statement same_kind
timer_statement_law = then_law is_timer no_kind timer_law
    (λ what. then_law (is k.Open) no_kind (expect_law k.Open refl)
    (λ _. then_law (is k.Name) no_kind name_law (λ w. then_law (is k.Close) no_kind (expect_law k.Close refl) (λ _. gives_law _) refl) refl) refl) refl

pub command_statement_law : Law r.command_statement g.command_statement is_command no_kind false
unfolding r.command_statement g.command_statement same_kind
command_statement_law = then_law is_command no_kind command_law
    (λ what. then_law (is k.Open) no_kind (anew_law (arguments_law max_levels (r.inner max_levels) (g.inner max_levels) (inner_law max_levels)))
    (λ xs. gives_law _) refl) refl

pub simple_statement_law : Law r.simple_statement g.simple_statement simples no_kind false
unfolding r.simple_statement g.simple_statement same_kind
simple_statement_law = either_law (is k.Goto) simples no_kind goto_law
    (either_law (is k.Gosub) (λ kd. is k.Gosub kd || (is k.Trace kd || (is_timer kd || is_command kd))) no_kind gosub_law
    (either_law (is k.Trace) (λ kd. is k.Trace kd || (is_timer kd || is_command kd)) no_kind trace_law
    (either_law is_timer (λ kd. is_timer kd || is_command kd) no_kind timer_statement_law command_statement_law refl) refl) refl) refl

module _ (ifs : ℕ) (deep : Parser (List Item)) (Deep : Form (List Item)) (deeper : Law deep Deep at_block behind_items true) where
  pub other_branch_law : Law (r.other_branch ifs deep) (g.other_branch ifs Deep) (is k.Else) behind_items false
  unfolding r.other_branch g.other_branch same_kind
  other_branch_law = then_law (is k.Else) behind_items (expect_law k.Else refl) (λ _. deeper) refl

  pub else_branch_law : Law (r.else_branch ifs deep) (g.else_branch ifs Deep) (is k.Else) (λ kd. is k.Else kd || behind_items kd) true
  unfolding r.else_branch g.else_branch same_kind
  else_branch_law = either_law (is k.Else) (is k.Else) (λ kd. is k.Else kd || behind_items kd) other_branch_law (gives_law []) refl

  pub branch_law : Law (r.branch ifs deep) (g.branch ifs Deep) (is k.If) no_kind false
  unfolding r.branch g.branch same_kind
  branch_law = then_law (is k.If) no_kind (enter_law ifs k.If refl)
      (λ line. then_law (starts rank.Or) no_kind expression_law (λ x. then_law (is k.Then) no_kind (expect_law k.Then refl) (λ _.
      then_law (λ kd. at_block kd || (is k.Else kd || is k.End kd)) no_kind deeper
      (λ ys. then_law (λ kd. is k.Else kd || is k.End kd) no_kind else_branch_law
      (λ ns. then_law (is k.End) no_kind (expect_law k.End refl) (λ _. gives_law _) refl) refl) refl) refl) refl) refl

  pub item_law : Law (r.item ifs deep) (g.item ifs Deep) begins (goes rank.Or) false
  unfolding r.item g.item same_kind
  item_law = either_law (is k.Name) begins (goes rank.Or) named_item_law
      (either_law (is k.If) (λ kd. is k.If kd || simples kd) (goes rank.Or) branch_law simple_statement_law refl) refl

  pub one_more_law : (xs : List Item) → Law (r.one_more ifs deep xs) (g.one_more ifs Deep xs) begins behind_item false
  unfolding r.one_more g.one_more same_kind
  one_more_law xs = then_law begins behind_item item_law (λ x. then_law (is k.Semi) (is k.Semi) semis_law (λ _. gives_law _) refl) refl

  pub items_law : Law (r.items ifs deep) (g.items ifs Deep) begins behind_items true
  unfolding r.items g.items same_kind
  items_law = many_law begins begins behind_items one_more_law refl []

  pub block_law : Law (r.block ifs deep) (g.block ifs Deep) at_block behind_items true
  unfolding r.block g.block same_kind
  block_law = then_law at_block behind_items semis_law (λ _. items_law) refl

pub inside_law : (n : ℕ) → Law (r.inside n) (g.inside n) at_block behind_items true
unfolding same_kind
inside_law zero = then_law at_block behind_items semis_law (λ _. gives_law []) refl
inside_law (suc n) = block_law n (r.inside n) (g.inside n) (inside_law n)

pub body_law : (n : ℕ) → Law (r.body n) (g.body n) at_block behind_items true
body_law n = block_law n (r.inside n) (g.inside n) (inside_law n)

pub items_in_law : (n : ℕ) → Law (r.items n (r.inside n)) (g.items n (g.inside n)) begins behind_items true
items_in_law n = items_law n (r.inside n) (g.inside n) (inside_law n)

-- ---- declarations

abbrev signed : Kind → Bool
signed kd = is k.Minus kd || is k.Number kd

pub below_zero_law : Law r.below_zero g.below_zero (is k.Minus) no_kind false
unfolding r.below_zero g.below_zero same_kind
below_zero_law = then_law (is k.Minus) no_kind (expect_law k.Minus refl) (λ _. then_law (is k.Number) no_kind number_law (λ n. gives_law _) refl) refl

pub value_law : Law r.value g.value signed no_kind false
unfolding r.value g.value same_kind
value_law = either_law (is k.Minus) signed no_kind below_zero_law number_law refl

pub constant_law : Law r.constant g.constant (is k.Name) no_kind false
unfolding r.constant g.constant same_kind
constant_law = then_law (is k.Name) no_kind name_law
    (λ w. then_law (is k.Eq) no_kind (expect_law k.Eq refl) (λ _. then_law signed no_kind value_law (λ v. gives_law _) refl) refl) refl

pub next_constant_law : (cs : List Constant) → Law (r.next_constant cs) (g.next_constant cs) (is k.Comma) no_kind false
unfolding r.next_constant g.next_constant same_kind
next_constant_law cs = then_law (is k.Comma) no_kind (expect_law k.Comma refl) (λ _. then_law (is k.Name) no_kind constant_law (λ c. gives_law _) refl) refl

pub constants_law : (cs : List Constant) → Law (r.constants cs) (g.constants cs) (is k.Const) (is k.Comma) false
unfolding r.constants g.constants same_kind
constants_law cs = then_law (is k.Const) (is k.Comma) (expect_law k.Const refl)
    (λ _. then_law (is k.Name) (is k.Comma) constant_law (λ c. many_law (is k.Comma) (is k.Comma) (is k.Comma) next_constant_law refl _) refl) refl

pub next_value_law : (vs : List ℤ) → Law (r.next_value vs) (g.next_value vs) (is k.Comma) no_kind false
unfolding r.next_value g.next_value same_kind
next_value_law vs = then_law (is k.Comma) no_kind (expect_law k.Comma refl) (λ _. then_law signed no_kind value_law (λ v. gives_law _) refl) refl

pub values_law : Law r.values g.values (is k.OpenIndex) no_kind false
unfolding r.values g.values same_kind
values_law = then_law (is k.OpenIndex) no_kind (expect_law k.OpenIndex refl)
    (λ _. then_law signed no_kind value_law (λ v. then_law (λ kd. is k.Comma kd || is k.CloseIndex kd) no_kind
    (many_law (is k.Comma) (is k.Comma) (is k.Comma) next_value_law refl _)
    (λ vs. then_law (is k.CloseIndex) no_kind (expect_law k.CloseIndex refl) (λ _. gives_law _) refl) refl) refl) refl

pub array_law : Law r.array g.array (is k.Name) no_kind false
unfolding r.array g.array same_kind
array_law = then_law (is k.Name) no_kind name_law
    (λ w. then_law (is k.OpenIndex) no_kind (expect_law k.OpenIndex refl)
    (λ _. then_law (is k.Number) no_kind number_law
    (λ n. then_law (is k.CloseIndex) no_kind (expect_law k.CloseIndex refl)
    (λ _. then_law (is k.Eq) no_kind (expect_law k.Eq refl) (λ _. then_law (is k.OpenIndex) no_kind values_law (λ vs. gives_law _) refl) refl) refl)
    refl) refl) refl

pub next_array_law : (xs : List Array) → Law (r.next_array xs) (g.next_array xs) (is k.Comma) no_kind false
unfolding r.next_array g.next_array same_kind
next_array_law xs = then_law (is k.Comma) no_kind (expect_law k.Comma refl) (λ _. then_law (is k.Name) no_kind array_law (λ c. gives_law _) refl) refl

pub arrays_law : (xs : List Array) → Law (r.arrays xs) (g.arrays xs) (is k.Array) (is k.Comma) false
unfolding r.arrays g.arrays same_kind
arrays_law xs = then_law (is k.Array) (is k.Comma) (expect_law k.Array refl)
    (λ _. then_law (is k.Name) (is k.Comma) array_law (λ c. many_law (is k.Comma) (is k.Comma) (is k.Comma) next_array_law refl _) refl) refl

pub frequencies_law : Law r.frequencies g.frequencies (is k.VapFrequency) no_kind false
unfolding r.frequencies g.frequencies same_kind
frequencies_law = then_law (is k.VapFrequency) no_kind (expect_law k.VapFrequency refl)
    (λ _. then_law (is k.Number) no_kind frequency_law (λ _. gives_law tt) refl) refl

pub declared_frequency_law : (d : Declared) → Law (r.declared_frequency d) (g.declared_frequency d) (is k.VapFrequency) no_kind false
unfolding r.declared_frequency g.declared_frequency same_kind
declared_frequency_law d = then_law (is k.VapFrequency) no_kind frequencies_law (λ _. gives_law d) refl

pub declared_constants_law : (d : Declared) → Law (r.declared_constants d) (g.declared_constants d) (is k.Const) (is k.Comma) false
unfolding r.declared_constants g.declared_constants same_kind
declared_constants_law d = then_law (is k.Const) (is k.Comma) (constants_law d.0) (λ cs. gives_law _) refl

pub declared_arrays_law : (d : Declared) → Law (r.declared_arrays d) (g.declared_arrays d) (is k.Array) (is k.Comma) false
unfolding r.declared_arrays g.declared_arrays same_kind
declared_arrays_law d = then_law (is k.Array) (is k.Comma) (arrays_law d.1) (λ xs. gives_law _) refl

abbrev behind_declaration : Kind → Bool
behind_declaration kd = is k.Comma kd || is k.Semi kd

pub one_declaration_law : (d : Declared) → Law (r.one_declaration d) (g.one_declaration d) declares (is k.Comma) false
unfolding r.one_declaration g.one_declaration same_kind
one_declaration_law d = either_law (is k.VapFrequency) declares (is k.Comma) (declared_frequency_law d)
    (either_law (is k.Const) (λ kd. is k.Const kd || is k.Array kd) (is k.Comma) (declared_constants_law d) (declared_arrays_law d) refl) refl

pub declaration_law : (d : Declared) → Law (r.declaration d) (g.declaration d) declares behind_declaration false
unfolding r.declaration g.declaration same_kind
declaration_law d = then_law declares behind_declaration (one_declaration_law d) (λ e. then_law (is k.Semi) (is k.Semi) semis_law (λ _. gives_law e) refl) refl

-- ---- programs

pub ending_law : Law r.ending g.ending (is k.ProgEnde) (is k.Semi) false
unfolding r.ending g.ending same_kind
ending_law = then_law (is k.ProgEnde) (is k.Semi) (expect_law k.ProgEnde refl)
    (λ _. then_law (is k.Colon) (is k.Semi) (expect_law k.Colon refl)
    (λ _. then_law (is k.Dot) (is k.Semi) (expect_law k.Dot refl) (λ _. semis_law) refl) refl) refl

pub sub_law : Law r.sub g.sub (is k.Subroutine) (is k.Semi) false
unfolding r.sub g.sub same_kind
sub_law = then_law (is k.Subroutine) (is k.Semi) (expect_law k.Subroutine refl)
    (λ _. then_law (is k.Name) (is k.Semi) name_law
    (λ w. then_law (λ kd. at_block kd || is k.ProgEnde kd) (is k.Semi) (body_law max_ifs)
    (λ xs. then_law (is k.ProgEnde) (is k.Semi) ending_law (λ _. gives_law _) refl) refl) refl) refl

pub next_sub_law : (rs : List Routine) → Law (r.next_sub rs) (g.next_sub rs) (is k.Subroutine) (is k.Semi) false
unfolding r.next_sub g.next_sub same_kind
next_sub_law rs = then_law (is k.Subroutine) (is k.Semi) sub_law (λ s. gives_law _) refl

abbrev from_items : Kind → Bool
from_items kd = begins kd || is k.ProgEnde kd

abbrev from_subs : Kind → Bool
from_subs kd = is k.Subroutine kd || from_items kd

abbrev from_declarations : Kind → Bool
from_declarations kd = declares kd || from_subs kd

pub program_law : Law r.program g.program (is k.Program) (is k.Semi) false
unfolding r.program g.program same_kind
program_law = then_law (is k.Program) (is k.Semi) (expect_law k.Program refl)
    (λ _. then_law (is k.Name) (is k.Semi) name_law (λ w. then_law (λ kd. is k.Semi kd || from_declarations kd) (is k.Semi) semis_law (λ _.
    then_law from_declarations (is k.Semi) (many_law declares declares (λ kd. declares kd || behind_declaration kd) declaration_law refl _) (λ d.
    then_law from_subs (is k.Semi) (many_law (is k.Subroutine) (is k.Subroutine) (λ kd. is k.Subroutine kd || is k.Semi kd) next_sub_law refl _) (λ rs.
    then_law from_items (is k.Semi) (items_in_law max_ifs) (λ xs. then_law (is k.ProgEnde) (is k.Semi) ending_law (λ _. gives_law _) refl) refl)
    refl) refl) refl) refl) refl
