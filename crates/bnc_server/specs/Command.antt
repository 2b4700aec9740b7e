-- The lines that begin with `%`: what they ask of the nodes.
use Rattle.std.specs.Prelude.{ℕ, ◌-◌, Bool, not, ◌&&◌, ◌==◌, nat_le, List, [], ◌∷◌, if◌then◌else◌}

-- nodes are numbered by their places, which begin with 0
pub data NodeCommand : Type 0 where
  select : (node : ℕ) → NodeCommand  -- `%2`
  exchange : (sender receiver : ℕ) → NodeCommand  -- `%1>2`
  lose : (sender receiver : ℕ) → NodeCommand  -- `%1>2!`
  hold_back : (sender receiver : ℕ) → NodeCommand  -- `%1>2-`
  hand_over : (sender receiver : ℕ) → NodeCommand  -- `%1<2`
  restart : (node : ℕ) → NodeCommand  -- `%2*`
  bad_form : NodeCommand  -- anything else

-- `1` to `9`
abbrev pub is_node_digit : ℕ → Bool
is_node_digit byte = nat_le 49 byte && nat_le byte 57

abbrev pub index_of : ℕ → ℕ
index_of digit = digit - 49

abbrev pub on_node : ℕ → (ℕ → NodeCommand) → NodeCommand
on_node digit command = if is_node_digit digit then command (index_of digit) else bad_form

-- the two nodes of a command differ
abbrev pub on_pair : ℕ → ℕ → (ℕ → ℕ → NodeCommand) → NodeCommand
on_pair one two command =
    if is_node_digit one && (is_node_digit two && not (one == two))
    then command (index_of one) (index_of two)
    else bad_form

-- `>` and `<` between two nodes
abbrev pub between : ℕ → ℕ → ℕ → NodeCommand
between one sign two =
    if sign == 62 then on_pair one two exchange
    else if sign == 60 then on_pair one two hand_over
    else bad_form

-- `!` and `-` behind them
abbrev pub between_and : ℕ → ℕ → ℕ → NodeCommand
between_and one two last =
    if last == 33 then on_pair one two lose
    else if last == 45 then on_pair one two hold_back
    else bad_form

-- what stands behind the `%`
abbrev pub command_of : List ℕ → NodeCommand
command_of (one ∷ []) = on_node one select
command_of (one ∷ sign ∷ []) = if sign == 42 then on_node one restart else bad_form
command_of (one ∷ sign ∷ two ∷ []) = between one sign two
command_of (one ∷ sign ∷ two ∷ last ∷ []) =
    if sign == 62 then between_and one two last else bad_form
command_of _ = bad_form
