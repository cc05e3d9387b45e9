-- What is made once for all scans of given tables.
use Rattle.meaning.specs.Tables.{Tables}
use Rattle.chart_scan.specs.declared.MadeOnce.{MadeOnce}
use Rattle.chart_scan.specs.Held.{Made}

-- it is made for the tables c
abbrev pub MadeFor : Tables → MadeOnce → Type 0
MadeFor c m = Made c m.runs.now m.links.now m.needs.now m.most.now
