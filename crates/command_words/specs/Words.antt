-- The words of a command line (this project's own).
use Rattle.std.specs.Prelude.{ℕ, Bool, true, false, not, ◌&&◌, ◌==◌, nat_lt, if◌then◌else◌, List, [], ◌∷◌, length, codes, Option, Some, None, option_map, option_and_then, option_to_list}
use Rattle.std.specs.Str.{bytes_eq}
use Rattle.text_lines.specs.Numbers.{decimal_up_to}
use Rattle.fabric.specs.Numbers.{most_passes}
use Rattle.p414_syntax.specs.declared.syntax.Rule14.{Rule14}
use Rattle.p414_syntax.specs.declared.syntax.Rule14.TheVariants.{Sequential, Parallel}
use Rattle.command_words.specs.Apart.{are_apart}

-- the files that `carry` names, of which the ports need not be named, and the bound on passes
pub record CarryFiles : Type 0 where
  pub program : List ℕ
  pub entries : List ℕ
  pub capture : List ℕ
  pub ports : Option (List ℕ)
  pub text : List ℕ
  pub sent : List ℕ
  pub report : List ℕ
  pub passes : ℕ

-- the files that `run14` names, of which the ports need not be named, the rule of actions and the bound on passes
pub record Run14Files : Type 0 where
  pub program : List ℕ
  pub entries : List ℕ
  pub capture : List ℕ
  pub ports : Option (List ℕ)
  pub sent : List ℕ
  pub report : List ℕ
  pub rule : Rule14
  pub passes : ℕ

-- the files that `run16` names, of which the ports need not be named, and the bound on passes
pub record Run16Files : Type 0 where
  pub text : List ℕ
  pub entries : List ℕ
  pub capture : List ℕ
  pub ports : Option (List ℕ)
  pub sent : List ℕ
  pub report : List ℕ
  pub passes : ℕ

-- a command with its names and options
pub data Command : Type 0 where
  carry : (files : CarryFiles) → Command
  check : (program : List ℕ) → Command
  order : (program : List ℕ) → Command
  run14 : (files : Run14Files) → Command
  run16 : (files : Run16Files) → Command

-- the files that `carry` reads
abbrev pub carry_inputs : CarryFiles → List (List ℕ)
carry_inputs f = f.program ∷ f.entries ∷ f.capture ∷ option_to_list f.ports

-- the files that `carry` writes
abbrev pub carry_outputs : CarryFiles → List (List ℕ)
carry_outputs f = f.text ∷ f.sent ∷ f.report ∷ []

-- the files that `run14` reads
abbrev pub run14_inputs : Run14Files → List (List ℕ)
run14_inputs f = f.program ∷ f.entries ∷ f.capture ∷ option_to_list f.ports

-- the files that `run14` writes
abbrev pub run14_outputs : Run14Files → List (List ℕ)
run14_outputs f = f.sent ∷ f.report ∷ []

-- the files that `run16` reads
abbrev pub run16_inputs : Run16Files → List (List ℕ)
run16_inputs f = f.text ∷ f.entries ∷ f.capture ∷ option_to_list f.ports

-- the files that `run16` writes
abbrev pub run16_outputs : Run16Files → List (List ℕ)
run16_outputs f = f.sent ∷ f.report ∷ []

-- the files that a command reads
abbrev pub inputs_of : Command → List (List ℕ)
inputs_of (carry files) = carry_inputs files
inputs_of (check program) = program ∷ []
inputs_of (order program) = program ∷ []
inputs_of (run14 files) = run14_inputs files
inputs_of (run16 files) = run16_inputs files

-- the files that a command writes
abbrev pub outputs_of : Command → List (List ℕ)
outputs_of (carry files) = carry_outputs files
outputs_of (check program) = []
outputs_of (order program) = []
outputs_of (run14 files) = run14_outputs files
outputs_of (run16 files) = run16_outputs files

-- the name of an input file that is no option's isn't empty and doesn't begin with two dashes
abbrev pub is_name : List ℕ → Bool
is_name [] = false
is_name (a ∷ []) = true
is_name (a ∷ b ∷ rest) = not (a == 45 && b == 45)

-- the value of an option, which names a file, isn't empty
abbrev pub is_value : List ℕ → Bool
is_value [] = false
is_value (a ∷ rest) = true

-- the ports file, where one is named, has a name
abbrev pub are_ports : Option (List ℕ) → Bool
are_ports None = true
are_ports (Some name) = is_value name

-- each input file has a name
abbrev pub are_inputs : List ℕ → List ℕ → List ℕ → Option (List ℕ) → Bool
are_inputs program entries capture ports =
    is_name program && is_name entries && is_name capture && are_ports ports

-- each file has a name, and the outputs are other files than the inputs and than each other
abbrev pub are_carry_names : CarryFiles → Bool
are_carry_names f =
    are_inputs f.program f.entries f.capture f.ports && is_value f.text && is_value f.sent && is_value f.report
    && are_apart (carry_inputs f) (carry_outputs f)

abbrev pub are_run14_names : Run14Files → Bool
are_run14_names f =
    are_inputs f.program f.entries f.capture f.ports && is_value f.sent && is_value f.report
    && are_apart (run14_inputs f) (run14_outputs f)

abbrev pub are_run16_names : Run16Files → Bool
are_run16_names f =
    are_inputs f.text f.entries f.capture f.ports && is_value f.sent && is_value f.report
    && are_apart (run16_inputs f) (run16_outputs f)

-- a number but 0
abbrev pub positive : Option ℕ → Option ℕ
positive None = None
positive (Some n) = if n == 0 then None else Some n

-- A bound on passes: a number of 1 to 10 decimal digits, from 1 to the greatest bound.
abbrev pub bound_of : List ℕ → Option ℕ
bound_of word = if nat_lt 10 (length word) then None else positive (decimal_up_to most_passes word)

-- the bound where none is given
abbrev pub default_passes : ℕ
default_passes = 256

-- the bound by the word that was found for it, or the one where none is given
abbrev pub passes_in : Option (List ℕ) → Option ℕ
passes_in None = Some default_passes
passes_in (Some word) = bound_of word

-- a rule of actions by its word
abbrev pub rule_of : List ℕ → Option Rule14
rule_of word =
    if bytes_eq word (codes "sequential") then Some Sequential
    else (if bytes_eq word (codes "parallel") then Some Parallel else None)

-- where none is given, actions are sequential
abbrev pub rule_in : Option (List ℕ) → Option Rule14
rule_in None = Some Sequential
rule_in (Some word) = rule_of word

-- the values of the options that were found
pub record Options : Type 0 where
  pub text : Option (List ℕ)
  pub sent : Option (List ℕ)
  pub report : Option (List ℕ)
  pub ports : Option (List ℕ)
  pub rule : Option (List ℕ)
  pub passes : Option (List ℕ)

-- no option was found
abbrev pub no_options : Options
no_options = record { text = None; sent = None; report = None; ports = None; rule = None; passes = None }

-- an option stands at most once
abbrev pub once : {A : Type 0} → Option (List ℕ) → A → Option A
once None found = Some found
once (Some value) found = None

-- one more option with its value
abbrev pub with_option : List ℕ → List ℕ → Options → Option Options
with_option option value o =
    if bytes_eq option (codes "--text") then once o.text (record o { text = Some value })
    else (if bytes_eq option (codes "--sent") then once o.sent (record o { sent = Some value })
    else (if bytes_eq option (codes "--report") then once o.report (record o { report = Some value })
    else (if bytes_eq option (codes "--ports") then once o.ports (record o { ports = Some value })
    else (if bytes_eq option (codes "--rule") then once o.rule (record o { rule = Some value })
    else (if bytes_eq option (codes "--passes") then once o.passes (record o { passes = Some value }) else None)))))

-- The options in a list of words, in any order: each is followed by its value, which may be any word.
abbrev pub options_in : List (List ℕ) → Options → Option Options
options_in [] found = Some found
options_in (option ∷ []) found = None
options_in (option ∷ value ∷ words) found = option_and_then (options_in words) (with_option option value found)

-- the files of `carry` by their names, where these may stand together
abbrev pub carry_with : List ℕ → List ℕ → List ℕ → Option (List ℕ) → ℕ → List ℕ → List ℕ → List ℕ → Option CarryFiles
carry_with program entries capture ports passes text sent report =
    let f : CarryFiles = record {
      program = program;
      entries = entries;
      capture = capture;
      ports = ports;
      text = text;
      sent = sent;
      report = report;
      passes = passes;
    } in
    if are_carry_names f then Some f else None

-- by the options that were found: the three outputs are named, and no rule is given
abbrev pub carry_by : List ℕ → List ℕ → List ℕ → Option (List ℕ) → Option (List ℕ) → Option ℕ → Option (List ℕ)
    → Option (List ℕ) → Option (List ℕ) → Option CarryFiles
carry_by program entries capture ports None (Some passes) (Some text) (Some sent) (Some report) =
    carry_with program entries capture ports passes text sent report
carry_by program entries capture ports rule passes text sent report = None

-- the files by the options that were found
abbrev pub carry_found : List ℕ → List ℕ → List ℕ → Options → Option CarryFiles
carry_found program entries capture o =
    carry_by program entries capture o.ports o.rule (passes_in o.passes) o.text o.sent o.report

-- PROGRAM ENTRIES CAPTURE --text F --sent F --report F [--ports F] [--passes N], the options in any order
abbrev pub carry_form : List (List ℕ) → Option CarryFiles
carry_form (program ∷ entries ∷ capture ∷ words) =
    option_and_then (carry_found program entries capture) (options_in words no_options)
carry_form words = None

-- the files of `run14` by their names, where these may stand together
abbrev pub run14_with : List ℕ → List ℕ → List ℕ → Option (List ℕ) → Rule14 → ℕ → List ℕ → List ℕ → Option Run14Files
run14_with program entries capture ports rule passes sent report =
    let f : Run14Files = record {
      program = program;
      entries = entries;
      capture = capture;
      ports = ports;
      sent = sent;
      report = report;
      rule = rule;
      passes = passes;
    } in
    if are_run14_names f then Some f else None

-- by the options that were found: both outputs are named, and no text is
abbrev pub run14_by : List ℕ → List ℕ → List ℕ → Option (List ℕ) → Option (List ℕ) → Option Rule14 → Option ℕ
    → Option (List ℕ) → Option (List ℕ) → Option Run14Files
run14_by program entries capture ports None (Some rule) (Some passes) (Some sent) (Some report) =
    run14_with program entries capture ports rule passes sent report
run14_by program entries capture ports text rule passes sent report = None

-- the files by the options that were found
abbrev pub run14_found : List ℕ → List ℕ → List ℕ → Options → Option Run14Files
run14_found program entries capture o =
    run14_by program entries capture o.ports o.text (rule_in o.rule) (passes_in o.passes) o.sent o.report

-- PROGRAM ENTRIES CAPTURE --sent F --report F [--ports F] [--rule R] [--passes N], the options in any order
abbrev pub run14_form : List (List ℕ) → Option Run14Files
run14_form (program ∷ entries ∷ capture ∷ words) =
    option_and_then (run14_found program entries capture) (options_in words no_options)
run14_form words = None

-- the files of `run16` by their names, where these may stand together
abbrev pub run16_with : List ℕ → List ℕ → List ℕ → Option (List ℕ) → ℕ → List ℕ → List ℕ → Option Run16Files
run16_with text entries capture ports passes sent report =
    let f : Run16Files = record {
      text = text;
      entries = entries;
      capture = capture;
      ports = ports;
      sent = sent;
      report = report;
      passes = passes;
    } in
    if are_run16_names f then Some f else None

-- by the options that were found: both outputs are named, and no text is, nor a rule
abbrev pub run16_by : List ℕ → List ℕ → List ℕ → Option (List ℕ) → Option (List ℕ) → Option (List ℕ) → Option ℕ
    → Option (List ℕ) → Option (List ℕ) → Option Run16Files
run16_by text entries capture ports None None (Some passes) (Some sent) (Some report) =
    run16_with text entries capture ports passes sent report
run16_by text entries capture ports written rule passes sent report = None

-- the files by the options that were found
abbrev pub run16_found : List ℕ → List ℕ → List ℕ → Options → Option Run16Files
run16_found text entries capture o =
    run16_by text entries capture o.ports o.text o.rule (passes_in o.passes) o.sent o.report

-- TEXT ENTRIES CAPTURE --sent F --report F [--ports F] [--passes N], the options in any order
abbrev pub run16_form : List (List ℕ) → Option Run16Files
run16_form (text ∷ entries ∷ capture ∷ words) =
    option_and_then (run16_found text entries capture) (options_in words no_options)
run16_form words = None

-- a word that is the name of a file
abbrev pub named : List ℕ → Option (List ℕ)
named program = if is_name program then Some program else None

-- PROGRAM, and no more
abbrev pub program_form : List (List ℕ) → Option (List ℕ)
program_form (program ∷ []) = named program
program_form words = None

-- The command that words are a form of: its name, and the words of its form behind it.
abbrev pub form : List (List ℕ) → Option Command
form (command ∷ words) =
    if bytes_eq command (codes "carry") then option_map (λ f. carry f) (carry_form words)
    else (if bytes_eq command (codes "check") then option_map (λ p. check p) (program_form words)
    else (if bytes_eq command (codes "order") then option_map (λ p. order p) (program_form words)
    else (if bytes_eq command (codes "run14") then option_map (λ f. run14 f) (run14_form words)
    else (if bytes_eq command (codes "run16") then option_map (λ f. run16 f) (run16_form words) else None))))
form [] = None
