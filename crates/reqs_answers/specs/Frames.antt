-- The text before and after the rows of environments, in a format; in JSON also the object around all.
use Rattle.std.specs.Prelude.{ℕ, List, [], ◌++◌, codes, nat_lt}
use Rattle.std.specs.Fmt.{decimal}
use Rattle.serde_json.specs.Written.{comma_if}
use Rattle.reqs_json.specs.declared.format.Format.{Format}
use Rattle.reqs_json.specs.declared.format.Format.TheVariants.{Text, Json}
use Rattle.reqs_answers.specs.Matrix.{environment_line}

-- before all environments
abbrev pub opening : Format → List ℕ
opening Text = []
opening Json = codes "{\"environments\":["

-- before the rows of the environment with this number
abbrev pub head : Format → ℕ → List ℕ
head Text number = environment_line number
head Json number =
    comma_if (nat_lt 1 number) ++ (codes "{\"number\":" ++ (decimal number ++ codes ",\"packages\":["))

-- after them
abbrev pub foot : Format → List ℕ
foot Text = []
foot Json = codes "]}"

-- after all environments
abbrev pub closing : Format → List ℕ
closing Text = []
closing Json = codes "]}\n"
