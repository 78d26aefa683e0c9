-- The lines on an instance: its name, its lanes with canonical terms, and why packs cannot call it.
use Rattle.std.specs.Prelude.{ℕ, ◌+◌, List, [], ◌∷◌, ◌++◌, map, Option, Some, None, codes}
use Rattle.std.specs.Fmt.{decimal}
use Rattle.vg_pseudo.specs.declared.header.Header.{Header}
use Rattle.vg_terms.specs.declared.text.Names.{Names}
use Rattle.vg_terms.specs.Text.{text}
use Rattle.vg_shapes.specs.Lane.{Lane, known, big, dynamic}
use Rattle.vg_lanes.specs.declared.cause.Cause.{Cause}
use Rattle.vg_lanes.specs.Cause.{cause_name}
use Rattle.vg_lanes.specs.Described.{canonical_lane, cause_of, immediate}

abbrev pub newline : List ℕ
newline = 10 ∷ []

-- the names of the parameters, by their numbers
abbrev pub names_of : Header → Names
names_of header = record { params = map (λ p. p.name) header.params; pointers = []; arguments = [] }

abbrev pub imm_text : Option ℕ → List ℕ
imm_text (Some imm) = codes " imm " ++ decimal imm
imm_text None = []

abbrev pub first_line : Header → ℕ → List ℕ
first_line header imm =
    codes "instruction " ++ header.name ++ imm_text (immediate header.imm imm) ++ newline

abbrev pub lane_text : Names → Lane → List ℕ
lane_text names (known t) = text names t
lane_text names big = codes "too large"
lane_text names dynamic = codes "dynamic"

abbrev pub lane_line : Names → ℕ → Lane → List ℕ
lane_line names number lane =
    codes "lane " ++ decimal number ++ codes " " ++ lane_text names lane ++ newline

-- lanes, the first of which has this number
abbrev pub lane_lines : Names → ℕ → List Lane → List ℕ
lane_lines names number [] = []
lane_lines names number (lane ∷ lanes) =
    lane_line names number lane ++ lane_lines names (number + 1) lanes

abbrev pub cause_line : Cause → List ℕ
cause_line cause = codes "not packable " ++ cause_name cause ++ newline

abbrev pub last_line : Option Cause → List ℕ
last_line (Some cause) = cause_line cause
last_line None = []

-- the lines on an instance, by its lanes as they were lifted
abbrev pub instance_text : Header → ℕ → List Lane → List ℕ
instance_text header imm lanes =
    let forms = map canonical_lane lanes in
    first_line header imm ++ (lane_lines (names_of header) 0 forms ++ last_line (cause_of forms))
