-- The cells and demands of a run.
--     default_cells                         what they are at the start of a run, and after INITIALZ
--     move_name, move_number, move_limit    a cell that was moved
--     steps_allowed                         how many steps a verb with a limit may take
--     set_demand                            a demand that was set to a position
--     name_in, demand_in                    what a cell and a demand hold
use Rattle.std.specs.Prelude.{ℕ, Option, Some, None, unwrap_or}
use Rattle.exact_values.specs.Rational.{ℚ, zero_ℚ}
use Rattle.problem_definitions.specs.Names.{Name}
use Rattle.control_definitions.specs.declared.TheConstants.{MAX_STEPS}
use Rattle.control_definitions.specs.declared.NameCell.{NameCell}
use Rattle.control_definitions.specs.declared.NameCell.TheVariants.{Xdata, Xpbname, Xobj, Xrhs, Xoldname, Xchrow, Xchcol}
use Rattle.control_definitions.specs.declared.NumberCell.{NumberCell}
use Rattle.control_definitions.specs.declared.NumberCell.TheVariants.{Xparam, Xparmax}
use Rattle.control_definitions.specs.declared.Demand.{Demand}
use Rattle.control_definitions.specs.declared.Demand.TheVariants.{Xdonfs, Xdounb}

-- what was moved to each cell last, and the position that each demand was set to last
pub record Cells : Type 0 where
  pub xdata : Option Name
  pub xpbname : Option Name
  pub xoldname : Option Name
  pub xobj : Option Name
  pub xrhs : Option Name
  pub xchrow : Option Name
  pub xchcol : Option Name
  pub xparam : ℚ
  pub xparmax : Option ℚ
  pub xiterlim : Option ℕ
  pub xdonfs : Option ℕ
  pub xdounb : Option ℕ

-- No name and no last value of the parameter is moved, its first value is 0, a verb may take 10,000 steps, and no demand is set.
abbrev pub default_cells : Cells
default_cells = record {
  xdata = None;
  xpbname = None;
  xoldname = None;
  xobj = None;
  xrhs = None;
  xchrow = None;
  xchcol = None;
  xparam = zero_ℚ;
  xparmax = None;
  xiterlim = Some 10000;
  xdonfs = None;
  xdounb = None;
}

abbrev pub move_name : NameCell → Name → Cells → Cells
move_name Xdata name cells = record cells { xdata = Some name }
move_name Xpbname name cells = record cells { xpbname = Some name }
move_name Xobj name cells = record cells { xobj = Some name }
move_name Xrhs name cells = record cells { xrhs = Some name }
move_name Xoldname name cells = record cells { xoldname = Some name }
move_name Xchrow name cells = record cells { xchrow = Some name }
move_name Xchcol name cells = record cells { xchcol = Some name }

abbrev pub move_number : NumberCell → ℚ → Cells → Cells
move_number Xparam value cells = record cells { xparam = value }
move_number Xparmax value cells = record cells { xparmax = Some value }

-- a limit on steps, or none
abbrev pub move_limit : Option ℕ → Cells → Cells
move_limit limit cells = record cells { xiterlim = limit }

-- how many steps a verb may take: without a limit PRIMAL takes any number, and every other verb 1,000,000
abbrev pub steps_allowed : Cells → ℕ
steps_allowed cells = unwrap_or cells.xiterlim MAX_STEPS

abbrev pub set_demand : Demand → ℕ → Cells → Cells
set_demand Xdonfs position cells = record cells { xdonfs = Some position }
set_demand Xdounb position cells = record cells { xdounb = Some position }

-- the name that was moved to a cell last
abbrev pub name_in : NameCell → Cells → Option Name
name_in Xdata cells = cells.xdata
name_in Xpbname cells = cells.xpbname
name_in Xobj cells = cells.xobj
name_in Xrhs cells = cells.xrhs
name_in Xoldname cells = cells.xoldname
name_in Xchrow cells = cells.xchrow
name_in Xchcol cells = cells.xchcol

-- the position that a demand was set to last
abbrev pub demand_in : Demand → Cells → Option ℕ
demand_in Xdonfs cells = cells.xdonfs
demand_in Xdounb cells = cells.xdounb
