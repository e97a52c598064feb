mod LoneCells
